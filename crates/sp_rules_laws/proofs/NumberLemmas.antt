-- The rules on numbers, cells, choices and simple forms keep truth.
use Rattle.std.proofs.Common.{ℕ, zero, suc, ◌-◌, ◌≡◌, refl, sym, ◌∙◌, ap, subst, ℤ, ◌≤ℤ◌, Bool, true, false, not, true≢false, List, [], ◌∷◌, Option, Some, None, slice_get, arith}
use Rattle.std.specs.Prelude.{◌==◌, if◌then◌else◌, int_le}
use Rattle.std.specs.Ordering.{int_eq}
use Rattle.std.specs.List.{AllByRecursion}
use Rattle.std.proofs.lemmas.Int.{ints}
use Rattle.std.specs.Cmp.{signed_Decides}
use Rattle.sp_base.specs.Image.{ImageMap}
use Rattle.sp_term.specs.Tree.{Tree, Truth, Element, Update, If}
use Rattle.sp_term.specs.Sorts.{Int, Formula, HasSort}
use Rattle.sp_term.specs.Value.{Env, value, int_of, map_of, IsTrueIn}
use Rattle.sp_term.specs.Admissible.{Region, Change, IsAdmissible}
use Rattle.sp_term.specs.declared.interval.Interval.{Interval}
use Rattle.sp_term.specs.Intervals.{interval}
use Rattle.sp_simp.specs.Same.{tree_eq, tree_one}
use Rattle.sp_simp.specs.Simple.{IsSimpleForm}
use Rattle.sp_simp.specs.Ranges.{IsInRanges}
use Rattle.sp_simp.proofs.ValueLemmas.{simple_value}
use Rattle.sp_simp.proofs.IntervalLemmas.{bounds}
use Rattle.sp_linear.proofs.LinearLemmas.{linear_sound, AreTrue}
use Rattle.sp_steps.specs.Subgoals.{Subgoal, hypothesis}
use Rattle.sp_steps.specs.Steps.{New, Built, turned, Simp, Linear, Range, Read, Choose}
use Rattle.sp_steps.specs.Rows.{ranged, read_cell, chosen}
use Rattle.sp_steps.specs.Next.{AreNamed}
use Rattle.sp_steps.specs.Soundness.{IsProperSubgoal, IsClosedTerm}
use Rattle.sp_rules_laws.specs.Truth.{KeepsTruth}
use Rattle.sp_rules_laws.proofs.BoolLemmas.{same_some, none_some, implies_from, every}
use Rattle.sp_rules_laws.proofs.StateLemmas.{Gives, locally, hypothesis_true, adding}

in_ranges : (image : ImageMap) (stack : Region) (cs : List Change) (e : Env) → IsAdmissible image stack cs e → IsInRanges stack e
in_ranges image stack cs e h = record { range = h.range; memory = h.memory }

-- ---- simp
simple_true : (image : ImageMap) (stack : Region) (cs : List Change) (e : Env) (p r : Tree) → IsAdmissible image stack cs e → HasSort p Formula → IsSimpleForm p r → (value e p).truth ≡ (value e r).truth
simple_true image stack cs e p r h sort form = ap (λ v. v.truth) (simple_value stack e (in_ranges image stack cs e h) form Formula sort)

simple_goal : (e : Env) (p : Tree) (b : Bool) → tree_eq (Truth true) p ≡ b → AllByRecursion (Gives e) (if b then [] else turned (Built p) ∷ []) → IsTrueIn e p
simple_goal e p true h all = subst (IsTrueIn e) (tree_one (Truth true) p h) refl
simple_goal e p false h all = all.0 tt

pub hypothesis_proper : (g : Subgoal) → IsProperSubgoal g → AllByRecursion (IsClosedTerm Formula) g.hypotheses
hypothesis_proper g h = every (IsClosedTerm Formula) g.hypotheses h.hypotheses

proper_get : (hs : List Tree) (i : ℕ) (p : Tree) → slice_get hs i ≡ Some p → AllByRecursion (IsClosedTerm Formula) hs → IsClosedTerm Formula p
proper_get [] i p h is = cc
proper_get (q ∷ hs) zero p h is = subst (IsClosedTerm Formula) (same_some q p h) is.0
proper_get (q ∷ hs) (suc i) p h is = proper_get hs i p h is.1

proper_by : (hs : List Tree) (k : ℕ) (p : Tree) (b : Bool) → (if b then None else slice_get hs (k - 1)) ≡ Some p → AllByRecursion (IsClosedTerm Formula) hs → IsClosedTerm Formula p
proper_by hs k p true h is = none_some p h
proper_by hs k p false h is = proper_get hs (k - 1) p h is

pub proper_at : (hs : List Tree) (k : ℕ) (p : Tree) → hypothesis hs k ≡ Some p → AllByRecursion (IsClosedTerm Formula) hs → IsClosedTerm Formula p
proper_at hs k p h is = proper_by hs k p (k == 0) h is

pub simp_keeps : (k : Option ℕ) → KeepsTruth (Simp k)
simp_keeps None = locally (Simp None) (λ image stack cs g made e proper right admissible row is all.
    simple_true image stack cs e g.goal row.0 admissible proper.goal.0 row.1
    ∙ simple_goal e row.0 (tree_eq (Truth true) row.0) refl (subst (AllByRecursion (Gives e)) (sym row.2) all))
simp_keeps (Some k) = locally (Simp (Some k)) (λ image stack cs g made e proper right admissible row is all.
    adding e _ g.goal made row.4
    (sym (simple_true image stack cs e row.0 row.1 admissible (proper_at g.hypotheses k row.0 row.2 (hypothesis_proper g proper)).0 row.3) ∙ hypothesis_true e g.hypotheses k row.0 row.2 is, tt) all)

-- ---- linear
named_true : (e : Env) (hs : List Tree) (numbers : List (ℤ × ℕ)) (named : List (ℤ × Tree)) → AreNamed hs numbers named → AllByRecursion (IsTrueIn e) hs → AreTrue e named
named_true e hs [] [] h is = tt
named_true e hs (n ∷ numbers) (p ∷ named) h is = (hypothesis_true e hs n.1 p.1 h.0.1 is, named_true e hs numbers named h.1 is)
named_true e hs [] (p ∷ named) h is = absurd h
named_true e hs (n ∷ numbers) [] h is = absurd h

pub linear_keeps : (n : ℤ) (numbers : List (ℤ × ℕ)) → KeepsTruth (Linear n numbers)
linear_keeps n numbers = locally (Linear n numbers) (λ image stack cs g made e proper right admissible row is all.
    linear_sound e n row.0 g.goal row.2 (named_true e g.hypotheses numbers row.0 row.1 is))

-- ---- range
le_true : (a b : ℤ) → a ≤ℤ b → int_le a b ≡ true
le_true a b h = grind (arith, ints)

range_by : (stack : Region) (e : Env) (t goal : Tree) (made : List New) (o : Option Interval) → interval t ≡ o → ranged o t goal ≡ Some made → IsInRanges stack e → HasSort t Int → AllByRecursion (Gives e) made → IsTrueIn e goal
range_by stack e t goal made (Some i) is h r sort all =
    let b = bounds stack e r t Int sort i is in
    adding e _ goal made h (le_true i.low (int_of e t) b.low, (le_true (int_of e t) i.high b.high, tt)) all
range_by stack e t goal made None is h r sort all = none_some made h

pub range_keeps : (t : Tree) → KeepsTruth (Range t)
range_keeps t = locally (Range t) (λ image stack cs g made e proper right admissible row is all.
    range_by stack e t g.goal made (interval t) refl row (in_ranges image stack cs e admissible) right.0 all)

-- ---- read
equal_true : (x y : ℤ) → int_eq x y ≡ true → x ≡ y
equal_true x y h = (signed_Decides x y).0 h

true_equal : (x y : ℤ) → x ≡ y → int_eq x y ≡ true
true_equal x y h = (signed_Decides x y).1 h

turned_eq : (x y : ℤ) (b : Bool) → int_eq x y ≡ b → int_eq y x ≡ b
turned_eq x y b h = grind (arith, ints)

false_of : (b : Bool) → not b ≡ true → b ≡ false
false_of true h = absurd (true≢false (sym h))
false_of false h = refl

read_by : (e : Env) (t goal : Tree) (made : List New) → read_cell t goal ≡ Some made → AllByRecursion (Gives e) made → IsTrueIn e goal
read_by e (Element (Update m x v) y) goal made h all =
    adding e _ goal made h (
      implies_from (int_eq (int_of e x) (int_of e y)) _ (λ k. true_equal _ _ (ap (λ b. if b then int_of e v else map_of e m (int_of e y)) (turned_eq (int_of e x) (int_of e y) true k))),
      (implies_from (not (int_eq (int_of e x) (int_of e y))) _ (λ k. true_equal _ _ (ap (λ b. if b then int_of e v else map_of e m (int_of e y)) (turned_eq (int_of e x) (int_of e y) false (false_of _ k)))), tt),
    ) all
read_by e t goal made h all = none_some made h

pub read_keeps : (t : Tree) → KeepsTruth (Read t)
read_keeps t = locally (Read t) (λ image stack cs g made e proper right admissible row is all. read_by e t g.goal made row all)

-- ---- choose
choose_by : (e : Env) (t goal : Tree) (made : List New) → chosen t goal ≡ Some made → AllByRecursion (Gives e) made → IsTrueIn e goal
choose_by e (If p x y) goal made h all =
    adding e _ goal made h (
      implies_from (value e p).truth _ (λ k. true_equal _ _ (ap (λ b. if b then int_of e x else int_of e y) k)),
      (implies_from (not (value e p).truth) _ (λ k. true_equal _ _ (ap (λ b. if b then int_of e x else int_of e y) (false_of _ k))), tt),
    ) all
choose_by e t goal made h all = none_some made h

pub choose_keeps : (t : Tree) → KeepsTruth (Choose t)
choose_keeps t = locally (Choose t) (λ image stack cs g made e proper right admissible row is all. choose_by e t g.goal made row all)
