-- What it means that a script shows a condition, and why it does not (this project's own).
use Rattle.std.specs.Prelude.{◌≡◌, ◌≢◌, ◌⊎◌, ℕ, List, [], ◌∷◌, ◌++◌, Result, Ok, Err, ⊤}
use Rattle.sp_base.specs.Image.{ImageMap}
use Rattle.sp_term.specs.Admissible.{Condition}
use Rattle.sp_steps.specs.Subgoals.{State, start}
use Rattle.sp_steps.specs.Next.{IsNext}
use Rattle.sp_steps.specs.Steps as steps
use Rattle.sp_steps.specs.declared.side.Side.TheVariants as side
use Rattle.sp_script_text.specs.declared.rule.Rule.{Rule}
use Rattle.sp_script_text.specs.declared.script.Script.{Script}
use Rattle.sp_script_text.specs.declared.script.Written.{Written}
use Rattle.sp_script_text.specs.Steps.{Step, Close, Simp, Split, Intro, SideLeft, SideRight, Unpack, UseBoth, CasesOf, CasesBy, Cut, Fix, At, Give, Pick, Induct, Rewrite, Linear, DivMod, Range, Read, Rom, Frame, Bits, BitOf, Choose, Empty, Last, Over, rule_of}
use Rattle.sp_script_text.specs.StepTexts.{IsStep}
use Rattle.sp_script_meaning.specs.declared.refusal.Proved.{Proved}
use Rattle.sp_script_meaning.specs.declared.refusal.ScriptRefusal.{ScriptRefusal}
use Rattle.sp_script_meaning.specs.declared.refusal.ScriptRefusal.TheVariants as refusal

-- a step as it is written, as a step of the rules over an image
abbrev pub rule_step : ImageMap → Step → steps.Step
rule_step image (Close k) = steps.Close k
rule_step image (Simp k) = steps.Simp k
rule_step image Split = steps.Split
rule_step image Intro = steps.Intro
rule_step image SideLeft = steps.OneSide side.Left
rule_step image SideRight = steps.OneSide side.Right
rule_step image (Unpack k) = steps.Unpack k
rule_step image (UseBoth k j) = steps.UseBoth k j
rule_step image (CasesOf k) = steps.CasesOf k
rule_step image (CasesBy p) = steps.CasesOn p
rule_step image (Cut p) = steps.Cut p
rule_step image Fix = steps.Fix
rule_step image (At k x) = steps.At k x
rule_step image (Give x) = steps.Give x
rule_step image (Pick k) = steps.Pick k
rule_step image Induct = steps.Induct
rule_step image (Rewrite k j back) = steps.Rewrite k j back
rule_step image (Linear n by) = steps.Linear n by
rule_step image (DivMod x c) = steps.DivMod x c
rule_step image (Range x) = steps.Range x
rule_step image (Read x) = steps.Read x
rule_step image (Rom m c) = steps.Rom m c image
rule_step image (Frame m x) = steps.Frame m x
rule_step image (Bits x) = steps.Bits x
rule_step image (BitOf k x) = steps.BitOf k x
rule_step image (Choose x) = steps.Choose x
rule_step image (Empty x) = steps.Empty x
rule_step image (Last x) = steps.Last x
rule_step image (Over x) = steps.Over x

-- the steps on these lines lead from one list of subgoals to another, each applying to what the one before it left
abbrev pub Leads : ImageMap → List Written → State → State → Type 0
Leads image [] old new = old ≡ new
Leads image (w ∷ more) old new =
    (step : Step) × (next : State) × IsStep step w.text × IsNext (rule_step image step) old next × Leads image more next new

-- the steps lead from the first subgoals of the condition to none
pub record Proves (image : ImageMap) (c : Condition) (s : Script) : Type 0 where
  pub final : State
  pub leads : Leads image s.steps (start c) final
  pub closed : final.subgoals ≡ []

-- the step on this line, of this rule, is the first that doesn't apply
pub record IsStuck (image : ImageMap) (c : Condition) (s : Script) (line : ℕ) (rule : Rule) : Type 0 where
  pub above : List Written
  pub on : Written
  pub below : List Written
  pub whole : s.steps ≡ above ++ on ∷ below
  pub place : on.line.0 ≡ line
  pub state : State
  pub leads : Leads image above (start c) state
  pub step : Step
  pub is : IsStep step on.text
  pub rule_is : rule_of step ≡ rule
  pub stuck : (next : State) → ¬ IsNext (rule_step image step) state next

-- all steps apply, and a subgoal is left; the line is that of `end`
pub record IsUnfinished (image : ImageMap) (c : Condition) (s : Script) (line : ℕ) : Type 0 where
  pub final : State
  pub leads : Leads image s.steps (start c) final
  pub left : final.subgoals ≢ []
  pub place : s.end.0 ≡ line

-- what an answer says; want of memory says nothing
abbrev pub AnswersCheck : ImageMap → Condition → Script → Result Proved ScriptRefusal → Type 0
AnswersCheck image c s (Ok proved) = Proves image c s
AnswersCheck image c s (Err (refusal.Step line rule)) = IsStuck image c s line.0 rule
AnswersCheck image c s (Err (refusal.Unfinished line)) = IsUnfinished image c s line.0
AnswersCheck image c s (Err refusal.Memory) = ⊤

-- the answer is this one, unless memory ran out
abbrev pub IsOr : Result Proved ScriptRefusal → Result Proved ScriptRefusal → Type 0
IsOr result right = (result ≡ right) ⊎ (result ≡ Err refusal.Memory)

-- a script that shows the condition is proved, and each cause is refused
pub record IsCompleteCheck (image : ImageMap) (c : Condition) (s : Script) (result : Result Proved ScriptRefusal) : Type 0 where
  pub proved : Proves image c s → IsOr result (Ok (record {}))
  pub stuck : (line : ℕ) (rule : Rule) → IsStuck image c s line rule → IsOr result (Err (refusal.Step (record { 0 = line }) rule))
  pub unfinished : (line : ℕ) → IsUnfinished image c s line → IsOr result (Err (refusal.Unfinished (record { 0 = line })))
