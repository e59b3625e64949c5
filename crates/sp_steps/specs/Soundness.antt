-- What a state says, and which states and steps are asked for (this project's own).
use Rattle.std.specs.Prelude.{◌≡◌, ◌≢◌, ℕ, ⊤, false, List, [], ◌∷◌, All}
use Rattle.sp_base.specs.Image.{ImageMap}
use Rattle.sp_term.specs.declared.var.Var.TheVariants as var
use Rattle.sp_term.specs.Tree.{Tree}
use Rattle.sp_term.specs.Sorts.{Sort, Int, Formula, Memory, HasSort, sort_of}
use Rattle.sp_term.specs.Free.{is_free, IsClosed}
use Rattle.sp_term.specs.Value.{Env, IsTrueIn}
use Rattle.sp_term.specs.Admissible.{Region, Change, IsAdmissible}
use Rattle.sp_steps.specs.Subgoals.{Subgoal, State}
use Rattle.sp_steps.specs.Steps.{Step, CasesOn, Cut, At, Give, DivMod, Range, Read, Rom, Frame, Bits, BitOf, Choose, Empty, Last, Over}

-- ---- truth

-- the goal is true where all hypotheses are
abbrev pub IsTrueSubgoal : Env → Subgoal → Type 0
IsTrueSubgoal e g = All (IsTrueIn e) g.hypotheses → IsTrueIn e g.goal

-- each subgoal is true in each admissible environment
abbrev pub IsValidState : ImageMap → Region → State → Type 0
IsValidState image stack s = All (λ g. (e : Env) → IsAdmissible image stack s.changes e → IsTrueSubgoal e g) s.subgoals

-- ---- terms that are right

-- a closed term of a sort
abbrev pub IsClosedTerm : Sort → Tree → Type 0
IsClosedTerm s t = HasSort t s × IsClosed t

-- the hypotheses and the goal are closed formulas
pub record IsProperSubgoal (g : Subgoal) : Type 0 where
  pub hypotheses : All (IsClosedTerm Formula) g.hypotheses
  pub goal : IsClosedTerm Formula g.goal

-- a memory variable other than `mem~`, and an earlier memory in which no `k_j` occurs
pub record IsProperChange (c : Change) : Type 0 where
  pub memory : sort_of c.variable ≡ Memory
  pub later : c.variable ≢ var.MemEntry
  pub earlier : IsClosedTerm Memory c.earlier
  pub fixed : (j : ℕ) → is_free (var.Any j) c.earlier ≡ false

-- the variables of changes are different
abbrev pub AreApart : List Change → Type 0
AreApart [] = ⊤
AreApart (c ∷ cs) = All (λ d. d.variable ≢ c.variable) cs × AreApart cs

pub record IsProper (s : State) : Type 0 where
  pub subgoals : All IsProperSubgoal s.subgoals
  pub changes : All IsProperChange s.changes
  pub apart : AreApart s.changes

-- the terms of a step are closed and of the sort that it asks, and the image is this one
abbrev pub IsProperStep : ImageMap → Step → Type 0
IsProperStep image (CasesOn p) = IsClosedTerm Formula p
IsProperStep image (Cut p) = IsClosedTerm Formula p
IsProperStep image (At k t) = IsClosedTerm Int t
IsProperStep image (Give t) = IsClosedTerm Int t
IsProperStep image (DivMod t c) = IsClosedTerm Int t
IsProperStep image (Range t) = IsClosedTerm Int t
IsProperStep image (Read t) = IsClosedTerm Int t
IsProperStep image (Rom m c bytes) = IsClosedTerm Memory m × (bytes ≡ image)
IsProperStep image (Frame m t) = IsClosedTerm Memory m × IsClosedTerm Int t
IsProperStep image (Bits t) = IsClosedTerm Int t
IsProperStep image (BitOf k t) = IsClosedTerm Int t
IsProperStep image (Choose t) = IsClosedTerm Int t
IsProperStep image (Empty t) = IsClosedTerm Int t
IsProperStep image (Last t) = IsClosedTerm Int t
IsProperStep image (Over t) = IsClosedTerm Int t
IsProperStep image step = ⊤
