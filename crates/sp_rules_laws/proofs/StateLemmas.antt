-- A step keeps truth where what it makes of the first subgoal does.
use Rattle.std.proofs.Common.{ℕ, zero, suc, ◌+◌, ◌-◌, ◌≡◌, sym, subst, Bool, true, false, List, [], ◌∷◌, ◌++◌, map, length, Some, None, slice_get}
use Rattle.std.specs.Prelude.{◌==◌, ◌&&◌, if◌then◌else◌, All}
use Rattle.std.specs.List.{AllByRecursion}
use Rattle.sp_base.specs.Image.{ImageMap}
use Rattle.sp_term.specs.Tree.{Tree}
use Rattle.sp_term.specs.Value.{Env, IsTrueIn}
use Rattle.sp_term.specs.Admissible.{Region, Change, IsAdmissible}
use Rattle.sp_steps.specs.Subgoals.{Subgoal, hypothesis}
use Rattle.sp_steps.specs.Steps.{Step, New, formula, Piece, adds}
use Rattle.sp_steps.specs.Next.{Row, after, new_subgoal, are_within_limits, may_be_subgoals}
use Rattle.sp_steps.specs.Soundness.{IsTrueSubgoal, IsProperSubgoal, IsProperChange, IsProperStep}
use Rattle.sp_rules_laws.specs.Truth.{KeepsTruth}
use Rattle.sp_rules_laws.proofs.BoolLemmas.{same_some, none_some, if_some, every, all_of, append, front, back, mapped, changed}

-- a subgoal is true in each admissible environment
abbrev pub IsValid : ImageMap → Region → List Change → Subgoal → Type 0
IsValid image stack cs g = (e : Env) → IsAdmissible image stack cs e → IsTrueSubgoal e g

-- what a step makes of a subgoal keeps truth
abbrev pub RowKeeps : Step → Type 0
RowKeeps step = (image : ImageMap) (stack : Region) (cs : List Change) (g : Subgoal) (made : List New) → IsProperSubgoal g → AllByRecursion IsProperChange cs → IsProperStep image step → Row cs g step made →
    AllByRecursion (λ n. IsValid image stack cs (new_subgoal g.hypotheses n)) made → IsValid image stack cs g

pub placed_is : (hs : List Tree) (rest : List Subgoal) (made : List New) (gs : List Subgoal) → after hs rest made ≡ Some gs → map (new_subgoal hs) made ++ rest ≡ gs
placed_is hs rest made gs h = same_some _ gs (if_some (are_within_limits (length hs) made && may_be_subgoals (1 + length rest) (length made + length rest)) _ gs h).1

pub kept : (step : Step) → RowKeeps step → KeepsTruth step
kept step row image stack old new proper right next valid =
    let V = IsValid image stack old.changes in
    let there : AllByRecursion V new.subgoals = every V new.subgoals (subst (λ (cs : List Change). All (IsValid image stack cs) new.subgoals) next.changes valid) in
    let placed : AllByRecursion V (map (new_subgoal next.first.hypotheses) next.made ++ next.rest) = subst (AllByRecursion V) (sym (placed_is next.first.hypotheses next.rest next.made new.subgoals next.placed)) there in
    let made = mapped V (new_subgoal next.first.hypotheses) next.made (front V (map (new_subgoal next.first.hypotheses) next.made) next.rest placed) in
    let rest = back V (map (new_subgoal next.first.hypotheses) next.made) next.rest placed in
    let first_proper : IsProperSubgoal next.first = (every IsProperSubgoal (next.first ∷ next.rest) (subst (All IsProperSubgoal) next.on_first proper.subgoals)).0 in
    let first : V next.first = row image stack old.changes next.first next.made first_proper (every IsProperChange old.changes proper.changes) right next.row made in
    all_of V old.subgoals (subst (AllByRecursion V) (sym next.on_first) (first, rest))

-- ---- rules that look at one environment alone
-- a new subgoal says its goal, where what it adds is true
abbrev pub Gives : Env → New → Type 0
Gives e n = AllByRecursion (IsTrueIn e) (map formula n.added) → IsTrueIn e (formula n.goal)

abbrev pub LocallyKeeps : Step → Type 0
LocallyKeeps step = (image : ImageMap) (stack : Region) (cs : List Change) (g : Subgoal) (made : List New) (e : Env) → IsProperSubgoal g → IsProperStep image step → IsAdmissible image stack cs e → Row cs g step made →
    AllByRecursion (IsTrueIn e) g.hypotheses → AllByRecursion (Gives e) made → IsTrueIn e g.goal

pub gives : (e : Env) (hs : List Tree) (n : New) → IsTrueSubgoal e (new_subgoal hs n) → AllByRecursion (IsTrueIn e) hs → Gives e n
gives e hs n h is added = h (all_of (IsTrueIn e) (hs ++ map formula n.added) (append (IsTrueIn e) hs (map formula n.added) is added))

pub locally : (step : Step) → LocallyKeeps step → KeepsTruth step
locally step local = kept step (λ image stack cs g made proper changes right row valid e admissible is.
    let hs = every (IsTrueIn e) g.hypotheses is in
    local image stack cs g made e proper right admissible row hs
    (changed (λ n. IsValid image stack cs (new_subgoal g.hypotheses n)) (Gives e) (λ n h. gives e g.hypotheses n (h e admissible) hs) made valid))

-- a hypothesis that is named is true
true_at : (e : Env) (hs : List Tree) (i : ℕ) (p : Tree) → slice_get hs i ≡ Some p → AllByRecursion (IsTrueIn e) hs → IsTrueIn e p
true_at e [] i p h is = cc
true_at e (q ∷ hs) zero p h is = subst (IsTrueIn e) (same_some q p h) is.0
true_at e (q ∷ hs) (suc i) p h is = true_at e hs i p h is.1

hypothesis_by : (e : Env) (hs : List Tree) (k : ℕ) (p : Tree) (b : Bool) → (if b then None else slice_get hs (k - 1)) ≡ Some p → AllByRecursion (IsTrueIn e) hs → IsTrueIn e p
hypothesis_by e hs k p true h is = none_some p h
hypothesis_by e hs k p false h is = true_at e hs (k - 1) p h is

pub hypothesis_true : (e : Env) (hs : List Tree) (k : ℕ) (p : Tree) → hypothesis hs k ≡ Some p → AllByRecursion (IsTrueIn e) hs → IsTrueIn e p
hypothesis_true e hs k p h is = hypothesis_by e hs k p (k == 0) h is

-- formulas that are true may be added
pub adding : (e : Env) (ps : List Piece) (goal : Tree) (made : List New) → adds ps goal ≡ Some made → AllByRecursion (IsTrueIn e) (map formula ps) → AllByRecursion (Gives e) made → IsTrueIn e goal
adding e ps goal made h added all = (subst (AllByRecursion (Gives e)) (sym (same_some _ made h)) all).0 added
