-- Each step of a script keeps truth, and so does the script.
use Rattle.std.proofs.Common.{ℕ, ◌≡◌, refl, sym, subst, List, [], ◌∷◌}
use Rattle.std.specs.Prelude.{All}
use Rattle.std.specs.List.{AllByRecursion}
use Rattle.sp_base.specs.Image.{ImageMap}
use Rattle.sp_term.specs.Tree.{Tree}
use Rattle.sp_term.specs.Sorts.{Sort}
use Rattle.sp_term.specs.Value.{Env, value, IsTrueIn}
use Rattle.sp_term.specs.Admissible.{Region, Condition, IsAdmissible, IsValid}
use Rattle.sp_steps.specs.Subgoals.{Subgoal, State, joined, first_subgoals, start}
use Rattle.sp_steps.specs.Soundness.{IsTrueSubgoal, IsValidState, IsClosedTerm, IsProper, IsProperStep}
use Rattle.sp_rules_laws.proofs.BoolLemmas.{and_left, and_right, every, all_of, changed}
use Rattle.sp_rules_laws.proofs.StepLemmas.{steps_keep}
use Rattle.sp_rules_laws.proofs.ProperLemmas.{stays_proper}
use Rattle.sp_script_text.specs.declared.script.Script.{Script}
use Rattle.sp_script_text.specs.declared.script.Written.{Written}
use Rattle.sp_script_text.specs.Steps.{Step, Close, Simp, Split, Intro, SideLeft, SideRight, Unpack, UseBoth, CasesOf, CasesBy, Cut, Fix, At, Give, Pick, Induct, Rewrite, Linear, DivMod, Range, Read, Rom, Frame, Bits, BitOf, Choose, Empty, Last, Over}
use Rattle.sp_script_text.specs.StepTexts.{Term, IsStep}
use Rattle.sp_script_meaning.specs.Checking.{rule_step, Leads, Proves}

-- a term that a text stands for is closed
written : (s : Sort) (t : Tree) (text : List ℕ) → Term s t text → IsClosedTerm s t
written s t text h = (h.1, h.0.readable.closed)

-- the terms of a step that is written are closed and of the sorts that it asks
proper_step : (image : ImageMap) (step : Step) (line : List ℕ) → IsStep step line → IsProperStep image (rule_step image step)
proper_step image (Close k) line h = tt
proper_step image (Simp k) line h = tt
proper_step image Split line h = tt
proper_step image Intro line h = tt
proper_step image SideLeft line h = tt
proper_step image SideRight line h = tt
proper_step image (Unpack k) line h = tt
proper_step image (UseBoth k j) line h = tt
proper_step image (CasesOf k) line h = tt
proper_step image (CasesBy p) line h = written _ p _ h.is.in_back
proper_step image (Cut p) line h = written _ p _ h.is.in_back
proper_step image Fix line h = tt
proper_step image (At k x) line h = written _ x _ h.is.in_back.in_back
proper_step image (Give x) line h = written _ x _ h.is.in_back
proper_step image (Pick k) line h = tt
proper_step image Induct line h = tt
proper_step image (Rewrite k j back) line h = tt
proper_step image (Linear n by) line h = tt
proper_step image (DivMod x c) line h = written _ x _ h.is.in_back.in_front
proper_step image (Range x) line h = written _ x _ h.is.in_back
proper_step image (Read x) line h = written _ x _ h.is.in_back
proper_step image (Rom m c) line h = (written _ m _ h.is.in_back.in_front, refl)
proper_step image (Frame m x) line h = (written _ m _ h.is.in_back.in_front, written _ x _ h.is.in_back.in_back)
proper_step image (Bits x) line h = written _ x _ h.is.in_back
proper_step image (BitOf k x) line h = written _ x _ h.is.in_back.in_back
proper_step image (Choose x) line h = written _ x _ h.is.in_back
proper_step image (Empty x) line h = written _ x _ h.is.in_back
proper_step image (Last x) line h = written _ x _ h.is.in_back
proper_step image (Over x) line h = written _ x _ h.is.in_back

-- steps in a row
along : (image : ImageMap) (stack : Region) (ws : List Written) (old new : State) → Leads image ws old new → IsProper old → IsProper new × (IsValidState image stack new → IsValidState image stack old)
along image stack [] old new h proper = (subst IsProper h proper, λ valid. subst (IsValidState image stack) (sym h) valid)
along image stack (w ∷ ws) old new h proper =
    let right = proper_step image h.0 w.text h.2 in
    let next = stays_proper (rule_step image h.0) image old h.1 proper right h.3 in
    let rest = along image stack ws h.1 new h.4 next in
    (rest.0, λ valid. steps_keep (rule_step image h.0) image stack old h.1 proper right h.3 (rest.1 valid))

-- no subgoals are all true
none_left : (P : Subgoal → Type 0) (gs : List Subgoal) → gs ≡ [] → All P gs
none_left P gs h = subst (All P) (sym h) (all_of P [] tt)

-- ---- the condition
joined_true : (e : Env) (goal : Tree) (goals : List Tree) → IsTrueIn e (joined goal goals) → AllByRecursion (IsTrueIn e) (goal ∷ goals)
joined_true e goal [] h = (h, tt)
joined_true e goal (next ∷ goals) h = (and_left (value e goal).truth (value e (joined next goals)).truth h, joined_true e next goals (and_right (value e goal).truth (value e (joined next goals)).truth h))

first_true : (e : Env) (hs goals : List Tree) → AllByRecursion (IsTrueSubgoal e) (first_subgoals hs goals) → All (IsTrueIn e) hs → AllByRecursion (IsTrueIn e) goals
first_true e hs [] h is = tt
first_true e hs (goal ∷ goals) h is = joined_true e goal goals (h.0 is)

pub shown_true : (image : ImageMap) (stack : Region) (c : Condition) (s : Script) → IsProper (start c) → Proves image c s → IsValid image stack c
shown_true image stack c s proper shows e admissible is =
    let V = λ (g : Subgoal). (f : Env) → IsAdmissible image stack c.changes f → IsTrueSubgoal f g in
    let valid = (along image stack s.steps (start c) shows.final shows.leads proper).1 (none_left (λ (g : Subgoal). (f : Env) → IsAdmissible image stack shows.final.changes f → IsTrueSubgoal f g) shows.final.subgoals shows.closed) in
    let here = changed V (IsTrueSubgoal e) (λ g h. h e admissible) (first_subgoals c.hypotheses c.goals) (every V (first_subgoals c.hypotheses c.goals) valid) in
    all_of (IsTrueIn e) c.goals (first_true e c.hypotheses c.goals here is)
