-- The rules on quantifiers keep truth.
use Rattle.std.proofs.Common.{ℕ, zero, suc, ◌≤◌, ◌≡◌, refl, sym, ◌∙◌, ap, subst, ℤ, pos, ◌+ℤ◌, ◌-ℤ◌, unsigned_abs, ◌≤ℤ◌, ◌<ℤ◌, true, false, List, Option, Some, None, arith}
use Rattle.std.specs.Prelude.{◌&&◌, ◌||◌, int_le, int_lt}
use Rattle.std.specs.List.{AllByRecursion}
use Rattle.std.proofs.lemmas.Int.{ints}
use Rattle.sp_base.specs.Image.{ImageMap}
use Rattle.sp_term.specs.declared.var.Var.TheVariants as var
use Rattle.sp_term.specs.Tree.{Tree, Literal, Variable, Add, Less, LessOrEqual, ForAll, ForSome}
use Rattle.sp_term.specs.Free.{is_free, IsClosed}
use Rattle.sp_term.specs.Sorts.{Int, Formula, HasSort}
use Rattle.sp_term.specs.Value.{Env, value, int_of, bind, IsTrueIn}
use Rattle.sp_term.specs.Admissible.{Region, Change, IsAdmissible}
use Rattle.sp_term.proofs.MemoryLemmas.{every as for_every, one as for_one}
use Rattle.sp_steps.specs.Subgoals.{hypothesis, some_has}
use Rattle.sp_steps.specs.Steps.{New, Fix, At, Give, Pick, Induct}
use Rattle.sp_steps.specs.Rows.{at_term, fixed, instance_of, instance_of_one, given as given_by, picked, picked_one, inducted}
use Rattle.sp_steps.specs.Next.{new_subgoal}
use Rattle.sp_steps.specs.Soundness.{IsProperChange, IsClosedTerm}
use Rattle.sp_rules_laws.specs.Truth.{KeepsTruth}
use Rattle.sp_rules_laws.proofs.BoolLemmas.{same_some, none_some, and_left, and_right, implies_from, implies_to, every, changed}
use Rattle.sp_rules_laws.proofs.StateLemmas.{IsValid, Gives, gives, kept, locally, hypothesis_true, adding}
use Rattle.sp_rules_laws.proofs.FreshLemmas.{with_any, left_false, right_false, value_same, at_value, any_value, any_sort, any_closed, next_sort, next_closed, at_other, still_admissible, hypotheses_same, free_at}

le_to : (a b : ℤ) → int_le a b ≡ true → a ≤ℤ b
le_to a b h = grind (arith, ints)

le_from : (a b : ℤ) → a ≤ℤ b → int_le a b ≡ true
le_from a b h = grind (arith, ints)

lt_from : (a b : ℤ) → a <ℤ b → int_lt a b ≡ true
lt_from a b h = grind (arith, ints)

-- ---- at
at_one : (e : Env) (p t goal : Tree) (made : List New) → instance_of_one p t goal ≡ Some made → HasSort t Int → IsClosed t → IsTrueIn e p → AllByRecursion (Gives e) made → IsTrueIn e goal
at_one e (ForAll i x y p) t goal made h sort closed is all =
    adding e _ goal made h (
      implies_from (int_le (int_of e x) (int_of e t) && int_le (int_of e t) (int_of e y)) _ (λ k.
          ap (λ v. v.truth) (at_value e i t p sort closed)
          ∙ (for_every e i x y p).0 is (int_of e t) (le_to (int_of e x) (int_of e t) (and_left _ (int_le (int_of e t) (int_of e y)) k)) (le_to (int_of e t) (int_of e y) (and_right (int_le (int_of e x) (int_of e t)) _ k))),
      tt,
    ) all
at_one e p t goal made h sort closed is all = none_some made h

at_by : (e : Env) (hs : List Tree) (k : ℕ) (t goal : Tree) (made : List New) (h : Option Tree) → hypothesis hs k ≡ h → instance_of h t goal ≡ Some made → HasSort t Int → IsClosed t → AllByRecursion (IsTrueIn e) hs → AllByRecursion (Gives e) made → IsTrueIn e goal
at_by e hs k t goal made (Some p) is h sort closed here all = at_one e p t goal made h sort closed (hypothesis_true e hs k p is here) all
at_by e hs k t goal made None is h sort closed here all = none_some made h

pub at_keeps : (k : ℕ) (t : Tree) → KeepsTruth (At k t)
at_keeps k t = locally (At k t) (λ image stack cs g made e proper right admissible row is all. at_by e g.hypotheses k t g.goal made (hypothesis g.hypotheses k) refl row right.0 right.1 is all)

-- ---- give
give_by : (e : Env) (t goal : Tree) (made : List New) → given_by t goal ≡ Some made → HasSort t Int → IsClosed t → AllByRecursion (Gives e) made → IsTrueIn e goal
give_by e t (ForSome i x y p) made h sort closed all =
    let a = (subst (AllByRecursion (Gives e)) (sym (same_some _ made h)) all).0 tt in
    let low = and_left (int_le (int_of e x) (int_of e t)) _ a in
    let rest = and_right (int_le (int_of e x) (int_of e t)) _ a in
    let high = and_left (int_le (int_of e t) (int_of e y)) _ rest in
    let there = and_right (int_le (int_of e t) (int_of e y)) _ rest in
    (for_one e i x y p).1 (int_of e t, le_to (int_of e x) (int_of e t) low, le_to (int_of e t) (int_of e y) high, ap (λ v. v.truth) (sym (at_value e i t p sort closed)) ∙ there)
give_by e t goal made h sort closed all = none_some made h

pub give_keeps : (t : Tree) → KeepsTruth (Give t)
give_keeps t = locally (Give t) (λ image stack cs g made e proper right admissible row is all. give_by e t g.goal made row right.0 right.1 all)

-- ---- rules with a fresh variable
-- what is made, true in the environment with another `k_j`
given_at : (image : ImageMap) (stack : Region) (cs : List Change) (hs : List Tree) (made : List New) (j : ℕ) (z : ℤ) (e : Env) → AllByRecursion IsProperChange cs → IsAdmissible image stack cs e → some_has j hs ≡ false → AllByRecursion (IsTrueIn e) hs → AllByRecursion (λ n. IsValid image stack cs (new_subgoal hs n)) made → AllByRecursion (Gives (with_any j z e)) made
given_at image stack cs hs made j z e proper admissible new is valid =
    changed (λ n. IsValid image stack cs (new_subgoal hs n)) (Gives (with_any j z e)) (λ n h. gives (with_any j z e) hs n (h (with_any j z e) (still_admissible image stack cs j z e proper admissible)) (hypotheses_same j z e hs new is)) made valid

-- ends and formula of a quantifier without `k_j`
fix_by : (image : ImageMap) (stack : Region) (cs : List Change) (hs : List Tree) (goal : Tree) (made : List New) (j : ℕ) (e : Env) → AllByRecursion IsProperChange cs → IsAdmissible image stack cs e → 1 ≤ j → some_has j hs ≡ false → is_free (var.Any j) goal ≡ false → fixed j goal ≡ Some made → AllByRecursion (IsTrueIn e) hs →
    AllByRecursion (λ n. IsValid image stack cs (new_subgoal hs n)) made → IsTrueIn e goal
fix_by image stack cs hs (ForAll i x y p) made j e proper admissible first new free h is valid =
    let in_x = left_false _ _ (left_false _ _ free) in
    let in_y = right_false (is_free (var.Any j) x) _ (left_false _ _ free) in
    let in_p = right_false (is_free (var.Any j) x || is_free (var.Any j) y) _ free in
    (for_every e i x y p).1 (λ z low high.
    let f = with_any j z e in
    let k = Variable (var.Any j) in
    let x_is : int_of f x ≡ int_of e x = ap (λ v. v.int) (value_same j z e x in_x) in
    let y_is : int_of f y ≡ int_of e y = ap (λ v. v.int) (value_same j z e y in_y) in
    let k_is : int_of f k ≡ z = any_value j z e in
    let low_is : IsTrueIn f (LessOrEqual x k) = le_from (int_of f x) (int_of f k) (rw (x_is, k_is) low) in
    let high_is : IsTrueIn f (LessOrEqual k y) = le_from (int_of f k) (int_of f y) (rw (y_is, k_is) high) in
    let all = subst (AllByRecursion (Gives f)) (sym (same_some _ made h)) (given_at image stack cs hs made j z e proper admissible new is valid) in
    sym (ap (λ v. v.truth) (at_other e j i z z k p (any_sort j first) (any_closed j) k_is in_p)) ∙ all.0 (low_is, (high_is, tt)))
fix_by image stack cs hs goal made j e proper admissible first new free h is valid = none_some made h

pub fix_keeps : KeepsTruth Fix
fix_keeps = kept Fix (λ image stack cs g made proper changes right row valid e admissible is.
    let j = row.0 in
    fix_by image stack cs g.hypotheses g.goal made j e changes admissible row.1.positive (left_false (some_has j g.hypotheses) _ row.1.new) (right_false (some_has j g.hypotheses) _ row.1.new) row.2 (every (IsTrueIn e) g.hypotheses is) valid)

-- ---- pick
pick_one : (image : ImageMap) (stack : Region) (cs : List Change) (hs : List Tree) (p goal : Tree) (made : List New) (j : ℕ) (e : Env) → AllByRecursion IsProperChange cs → IsAdmissible image stack cs e → 1 ≤ j → some_has j hs ≡ false → is_free (var.Any j) p ≡ false → is_free (var.Any j) goal ≡ false → picked_one j p goal ≡ Some made →
    IsTrueIn e p → AllByRecursion (IsTrueIn e) hs → AllByRecursion (λ n. IsValid image stack cs (new_subgoal hs n)) made → IsTrueIn e goal
pick_one image stack cs hs (ForSome i x y p) goal made j e proper admissible first new free in_goal h there is valid =
    let in_x = left_false _ _ (left_false _ _ free) in
    let in_y = right_false (is_free (var.Any j) x) _ (left_false _ _ free) in
    let in_p = right_false (is_free (var.Any j) x || is_free (var.Any j) y) _ free in
    let some = (for_one e i x y p).0 there in
    let z = some.0 in
    let f = with_any j z e in
    let k = Variable (var.Any j) in
    let x_is : int_of f x ≡ int_of e x = ap (λ v. v.int) (value_same j z e x in_x) in
    let y_is : int_of f y ≡ int_of e y = ap (λ v. v.int) (value_same j z e y in_y) in
    let k_is : int_of f k ≡ z = any_value j z e in
    let low_is : IsTrueIn f (LessOrEqual x k) = le_from (int_of f x) (int_of f k) (rw (x_is, k_is) some.1) in
    let high_is : IsTrueIn f (LessOrEqual k y) = le_from (int_of f k) (int_of f y) (rw (y_is, k_is) some.2) in
    let body : IsTrueIn f (at_term i k p) = ap (λ v. v.truth) (at_other e j i z z k p (any_sort j first) (any_closed j) k_is in_p) ∙ some.3 in
    let all = given_at image stack cs hs made j z e proper admissible new is valid in
    sym (ap (λ v. v.truth) (value_same j z e goal in_goal)) ∙ adding f _ goal made h (low_is, (high_is, (body, tt))) all
pick_one image stack cs hs p goal made j e proper admissible first new free in_goal h there is valid = none_some made h

pick_by : (image : ImageMap) (stack : Region) (cs : List Change) (hs : List Tree) (k : ℕ) (goal : Tree) (made : List New) (j : ℕ) (e : Env) (h : Option Tree) → hypothesis hs k ≡ h → AllByRecursion IsProperChange cs → IsAdmissible image stack cs e → 1 ≤ j → some_has j hs ≡ false → is_free (var.Any j) goal ≡ false → picked j h goal ≡ Some made →
    AllByRecursion (IsTrueIn e) hs → AllByRecursion (λ n. IsValid image stack cs (new_subgoal hs n)) made → IsTrueIn e goal
pick_by image stack cs hs k goal made j e (Some p) named proper admissible first new in_goal h is valid =
    pick_one image stack cs hs p goal made j e proper admissible first new (free_at j hs k p named new) in_goal h (hypothesis_true e hs k p named is) is valid
pick_by image stack cs hs k goal made j e None named proper admissible first new in_goal h is valid = none_some made h

pub pick_keeps : (k : ℕ) → KeepsTruth (Pick k)
pick_keeps k = kept (Pick k) (λ image stack cs g made proper changes right row valid e admissible is.
    let j = row.0 in
    pick_by image stack cs g.hypotheses k g.goal made j e (hypothesis g.hypotheses k) refl changes admissible row.1.positive (left_false (some_has j g.hypotheses) _ row.1.new) (right_false (some_has j g.hypotheses) _ row.1.new) row.2 (every (IsTrueIn e) g.hypotheses is) valid)

-- ---- induct
-- the formula is true n above the lower end
induct_at : (image : ImageMap) (stack : Region) (cs : List Change) (hs : List Tree) (i : ℕ) (x y p : Tree) (made : List New) (j : ℕ) (e : Env) → AllByRecursion IsProperChange cs → IsAdmissible image stack cs e → 1 ≤ j → some_has j hs ≡ false → is_free (var.Any j) (ForAll i x y p) ≡ false → HasSort x Int → IsClosed x →
    inducted j (ForAll i x y p) ≡ Some made → AllByRecursion (IsTrueIn e) hs → AllByRecursion (λ n. IsValid image stack cs (new_subgoal hs n)) made → (n : ℕ) → (int_of e x +ℤ pos n) ≤ℤ int_of e y → IsTrueIn (bind i (int_of e x +ℤ pos n) e) p
induct_at image stack cs hs i x y p made j e proper admissible first new free sort closed h is valid zero below =
    let start : int_of e x +ℤ pos 0 ≡ int_of e x = omega (arith, ints) in
    let order : int_le (int_of e x) (int_of e y) ≡ true = le_from (int_of e x) (int_of e y) (omega (arith, ints)) in
    let all = changed (λ n. IsValid image stack cs (new_subgoal hs n)) (Gives e) (λ n k. gives e hs n (k e admissible) is) made valid in
    let base = (subst (AllByRecursion (Gives e)) (sym (same_some _ made h)) all).0 tt in
    ap (λ z. (value (bind i z e) p).truth) start
    ∙ sym (ap (λ v. v.truth) (at_value e i x p sort closed))
    ∙ implies_to (int_le (int_of e x) (int_of e y)) (value e (at_term i x p)).truth base order
induct_at image stack cs hs i x y p made j e proper admissible first new free sort closed h is valid (suc n) below =
    let in_x = left_false _ _ (left_false _ _ free) in
    let in_y = right_false (is_free (var.Any j) x) _ (left_false _ _ free) in
    let in_p = right_false (is_free (var.Any j) x || is_free (var.Any j) y) _ free in
    let z = int_of e x +ℤ pos n in
    let f = with_any j z e in
    let k = Variable (var.Any j) in
    let earlier : IsTrueIn (bind i z e) p = induct_at image stack cs hs i x y p made j e proper admissible first new free sort closed h is valid n (omega (arith, ints)) in
    let x_is : int_of f x ≡ int_of e x = ap (λ v. v.int) (value_same j z e x in_x) in
    let y_is : int_of f y ≡ int_of e y = ap (λ v. v.int) (value_same j z e y in_y) in
    let k_is : int_of f k ≡ z = any_value j z e in
    let next_is : int_of f (Add k (Literal (pos 1))) ≡ int_of e x +ℤ pos (suc n) = ap (λ w. w +ℤ pos 1) k_is ∙ omega (arith, ints) in
    let low_is : IsTrueIn f (LessOrEqual x k) = le_from (int_of f x) (int_of f k) (rw (x_is, k_is) (omega (arith, ints))) in
    let high_is : IsTrueIn f (Less k y) = lt_from (int_of f k) (int_of f y) (rw (y_is, k_is) (omega (arith, ints))) in
    let body : IsTrueIn f (at_term i k p) = ap (λ v. v.truth) (at_other e j i z z k p (any_sort j first) (any_closed j) k_is in_p) ∙ earlier in
    let all = subst (AllByRecursion (Gives f)) (sym (same_some _ made h)) (given_at image stack cs hs made j z e proper admissible new is valid) in
    sym (ap (λ v. v.truth) (at_other e j i z (int_of e x +ℤ pos (suc n)) (Add k (Literal (pos 1))) p (next_sort j (pos 1) first) (next_closed j (pos 1)) next_is in_p))
    ∙ all.1.0 (low_is, (high_is, (body, tt)))

-- a number from another one on
above : (a b : ℤ) → a ≤ℤ b → (n : ℕ) × (b ≡ a +ℤ pos n)
above a b h = (unsigned_abs (b -ℤ a), omega (arith, ints))

induct_by : (image : ImageMap) (stack : Region) (cs : List Change) (hs : List Tree) (goal : Tree) (made : List New) (j : ℕ) (e : Env) → AllByRecursion IsProperChange cs → IsAdmissible image stack cs e → 1 ≤ j → some_has j hs ≡ false → is_free (var.Any j) goal ≡ false → IsClosedTerm Formula goal → inducted j goal ≡ Some made →
    AllByRecursion (IsTrueIn e) hs → AllByRecursion (λ n. IsValid image stack cs (new_subgoal hs n)) made → IsTrueIn e goal
induct_by image stack cs hs (ForAll i x y p) made j e proper admissible first new free right h is valid =
    (for_every e i x y p).1 (λ z low high.
    let n = above (int_of e x) z low in
    subst (λ w. IsTrueIn (bind i w e) p) (sym n.1)
    (induct_at image stack cs hs i x y p made j e proper admissible first new free right.0.2 (λ k. left_false _ _ (left_false _ _ (right.1 k))) h is valid n.0 (subst (λ w. w ≤ℤ int_of e y) n.1 high)))
induct_by image stack cs hs goal made j e proper admissible first new free right h is valid = none_some made h

pub induct_keeps : KeepsTruth Induct
induct_keeps = kept Induct (λ image stack cs g made proper changes right row valid e admissible is.
    let j = row.0 in
    induct_by image stack cs g.hypotheses g.goal made j e changes admissible row.1.positive (left_false (some_has j g.hypotheses) _ row.1.new) (right_false (some_has j g.hypotheses) _ row.1.new) proper.goal row.2 (every (IsTrueIn e) g.hypotheses is) valid)
