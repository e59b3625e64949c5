-- The steps of scripts: a rule with its arguments. Formulas, whole numbers and memories are trees (this project's own).
use Rattle.std.specs.Prelude.{ℕ, ℤ, Bool, List, Option}
use Rattle.sp_term.specs.Tree.{Tree}
use Rattle.sp_script_text.specs.declared.rule.Rule.{Rule}
use Rattle.sp_script_text.specs.declared.rule.Rule.TheVariants as rule
use Rattle.sp_script_text.specs.declared.step.Step as declared
use Rattle.sp_script_text.specs.declared.step.Step.TheVariants as step

pub data Step : Type 0 where
  Close : ℕ → Step
  Simp : Option ℕ → Step
  Split : Step
  Intro : Step
  SideLeft : Step
  SideRight : Step
  Unpack : ℕ → Step
  UseBoth : ℕ → ℕ → Step
  CasesOf : ℕ → Step
  CasesBy : Tree → Step
  Cut : Tree → Step
  Fix : Step
  At : ℕ → Tree → Step
  Give : Tree → Step
  Pick : ℕ → Step
  Induct : Step
  -- the equation, the hypothesis to rewrite, if it isn't the goal, and whether it is read backwards
  Rewrite : ℕ → Option ℕ → Bool → Step
  -- the multiplier of the goal, and the hypotheses with theirs
  Linear : ℤ → List (ℤ × ℕ) → Step
  DivMod : Tree → ℤ → Step
  Range : Tree → Step
  Read : Tree → Step
  Rom : Tree → ℤ → Step
  Frame : Tree → Tree → Step
  Bits : Tree → Step
  BitOf : ℤ → Tree → Step
  Choose : Tree → Step
  Empty : Tree → Step
  Last : Tree → Step
  Over : Tree → Step

abbrev pub rule_of : Step → Rule
rule_of (Close k) = rule.Close
rule_of (Simp k) = rule.Simp
rule_of Split = rule.Split
rule_of Intro = rule.Intro
rule_of SideLeft = rule.Side
rule_of SideRight = rule.Side
rule_of (Unpack k) = rule.Unpack
rule_of (UseBoth k j) = rule.UseBoth
rule_of (CasesOf k) = rule.Cases
rule_of (CasesBy p) = rule.Cases
rule_of (Cut p) = rule.Cut
rule_of Fix = rule.Fix
rule_of (At k x) = rule.At
rule_of (Give x) = rule.Give
rule_of (Pick k) = rule.Pick
rule_of Induct = rule.Induct
rule_of (Rewrite k j back) = rule.Rewrite
rule_of (Linear n named) = rule.Linear
rule_of (DivMod x c) = rule.DivMod
rule_of (Range x) = rule.Range
rule_of (Read x) = rule.Read
rule_of (Rom m c) = rule.Rom
rule_of (Frame m x) = rule.Frame
rule_of (Bits x) = rule.Bits
rule_of (BitOf k x) = rule.BitOf
rule_of (Choose x) = rule.Choose
rule_of (Empty x) = rule.Empty
rule_of (Last x) = rule.Last
rule_of (Over x) = rule.Over

-- what the code keeps of a step, seen as trees
abbrev pub seen : declared.Step → Step
seen (step.Close k) = Close k
seen (step.Simp k) = Simp k
seen step.Split = Split
seen step.Intro = Intro
seen step.SideLeft = SideLeft
seen step.SideRight = SideRight
seen (step.Unpack k) = Unpack k
seen (step.UseBoth k j) = UseBoth k j
seen (step.CasesOf k) = CasesOf k
seen (step.CasesBy p) = CasesBy p.now
seen (step.Cut p) = Cut p.now
seen step.Fix = Fix
seen (step.At k x) = At k x.now
seen (step.Give x) = Give x.now
seen (step.Pick k) = Pick k
seen step.Induct = Induct
seen (step.Rewrite k j back) = Rewrite k j back
seen (step.Linear n named) = Linear n named.now
seen (step.DivMod x c) = DivMod x.now c
seen (step.Range x) = Range x.now
seen (step.Read x) = Read x.now
seen (step.Rom m c) = Rom m.now c
seen (step.Frame m x) = Frame m.now x.now
seen (step.Bits x) = Bits x.now
seen (step.BitOf k x) = BitOf k x.now
seen (step.Choose x) = Choose x.now
seen (step.Empty x) = Empty x.now
seen (step.Last x) = Last x.now
seen (step.Over x) = Over x.now
