-- Where a formula is true its form has its sign, and the other way round.
use Rattle.std.proofs.Common.{◌≡◌, subst, ℤ, pos, ◌-ℤ◌, ◌<ℤ◌, ◌≤ℤ◌, true, false, not, Some, ◌↔◌, arith}
use Rattle.std.specs.Prelude.{int_lt, int_le}
use Rattle.std.specs.Ordering.{int_eq}
use Rattle.std.proofs.lemmas.Int.{ints}
use Rattle.sp_term.specs.Tree.{Tree, Equal, Less, LessOrEqual, Not}
use Rattle.sp_term.specs.Value.{Env, int_of, IsTrueIn}
use Rattle.sp_linear.specs.Linear.{form_of, form_of_not, negated, is_equality}
use Rattle.sp_linear.proofs.LinearLemmas.{equal_true, true_equal, same_some}

up : (x y : ℤ) → int_le x y ≡ true → pos 0 ≤ℤ (y -ℤ x)
up x y h = let k : x ≤ℤ y = grind (arith, ints) in omega (arith, ints)

down : (x y : ℤ) → pos 0 ≤ℤ (y -ℤ x) → int_le x y ≡ true
down x y h = let k : x ≤ℤ y = omega (arith, ints) in grind (arith, ints)

up_less : (x y : ℤ) → int_lt x y ≡ true → pos 0 ≤ℤ ((y -ℤ x) -ℤ pos 1)
up_less x y h = let k : x <ℤ y = grind (arith, ints) in omega (arith, ints)

down_less : (x y : ℤ) → pos 0 ≤ℤ ((y -ℤ x) -ℤ pos 1) → int_lt x y ≡ true
down_less x y h = let k : x <ℤ y = omega (arith, ints) in grind (arith, ints)

up_not : (x y : ℤ) → not (int_lt y x) ≡ true → pos 0 ≤ℤ (y -ℤ x)
up_not x y h = let k : x ≤ℤ y = grind (arith, ints) in omega (arith, ints)

down_not : (x y : ℤ) → pos 0 ≤ℤ (y -ℤ x) → not (int_lt y x) ≡ true
down_not x y h = let k : x ≤ℤ y = omega (arith, ints) in grind (arith, ints)

up_not_less : (x y : ℤ) → not (int_le y x) ≡ true → pos 0 ≤ℤ ((y -ℤ x) -ℤ pos 1)
up_not_less x y h = let k : x <ℤ y = grind (arith, ints) in omega (arith, ints)

down_not_less : (x y : ℤ) → pos 0 ≤ℤ ((y -ℤ x) -ℤ pos 1) → not (int_le y x) ≡ true
down_not_less x y h = let k : x <ℤ y = omega (arith, ints) in grind (arith, ints)

-- a fact of the one form is a fact of the other
for : (e : Env) (A : Type 0) (a b : Tree) → Some a ≡ Some b → (A ↔ (pos 0 ≤ℤ int_of e a)) → A ↔ (pos 0 ≤ℤ int_of e b)
for e A a b h k = subst (λ t. A ↔ (pos 0 ≤ℤ int_of e t)) (same_some a b h) k

comparison_of_not : (e : Env) (p form : Tree) → form_of_not p ≡ Some form → IsTrueIn e (Not p) ↔ (pos 0 ≤ℤ int_of e form)
comparison_of_not e (Less y x) form h = for e (IsTrueIn e (Not (Less y x))) _ form h (up_not (int_of e x) (int_of e y), down_not (int_of e x) (int_of e y))
comparison_of_not e (LessOrEqual y x) form h = for e (IsTrueIn e (Not (LessOrEqual y x))) _ form h (up_not_less (int_of e x) (int_of e y), down_not_less (int_of e x) (int_of e y))
comparison_of_not e p form h = cc

pub comparison_form : (e : Env) (h form : Tree) → form_of h ≡ Some form → is_equality h ≡ false → IsTrueIn e h ↔ (pos 0 ≤ℤ int_of e form)
comparison_form e (LessOrEqual x y) form h k = for e (IsTrueIn e (LessOrEqual x y)) _ form h (up (int_of e x) (int_of e y), down (int_of e x) (int_of e y))
comparison_form e (Less x y) form h k = for e (IsTrueIn e (Less x y)) _ form h (up_less (int_of e x) (int_of e y), down_less (int_of e x) (int_of e y))
comparison_form e (Equal x y) form h k = cc
comparison_form e (Not p) form h k = comparison_of_not e p form h
comparison_form e t form h k = cc

level : (x y : ℤ) → int_eq x y ≡ true → (y -ℤ x) ≡ pos 0
level x y h = let k : x ≡ y = equal_true x y h in omega (arith, ints)

unlevel : (x y : ℤ) → (y -ℤ x) ≡ pos 0 → int_eq x y ≡ true
unlevel x y h = true_equal x y (omega (arith, ints))

pub equation_form : (e : Env) (h form : Tree) → form_of h ≡ Some form → is_equality h ≡ true → IsTrueIn e h ↔ (int_of e form ≡ pos 0)
equation_form e (Equal x y) form h k = subst (λ t. IsTrueIn e (Equal x y) ↔ (int_of e t ≡ pos 0)) (same_some _ form h) (level (int_of e x) (int_of e y), unlevel (int_of e x) (int_of e y))
equation_form e t form h k = cc

against_at_most : (x y : ℤ) → ¬ (int_le x y ≡ true) → pos 0 ≤ℤ ((x -ℤ y) -ℤ pos 1)
against_at_most x y h = let k : y <ℤ x = grind (arith, ints) in omega (arith, ints)

not_at_most : (x y : ℤ) → pos 0 ≤ℤ ((x -ℤ y) -ℤ pos 1) → ¬ (int_le x y ≡ true)
not_at_most x y h = let k : y <ℤ x = omega (arith, ints) in grind (arith, ints)

against_less : (x y : ℤ) → ¬ (int_lt x y ≡ true) → pos 0 ≤ℤ (x -ℤ y)
against_less x y h = let k : y ≤ℤ x = grind (arith, ints) in omega (arith, ints)

not_less : (x y : ℤ) → pos 0 ≤ℤ (x -ℤ y) → ¬ (int_lt x y ≡ true)
not_less x y h = let k : y ≤ℤ x = omega (arith, ints) in grind (arith, ints)

pub negated_form : (e : Env) (goal against : Tree) → negated goal ≡ Some against → (¬ (IsTrueIn e goal)) ↔ (pos 0 ≤ℤ int_of e against)
negated_form e (LessOrEqual x y) against h = for e (¬ (IsTrueIn e (LessOrEqual x y))) _ against h (against_at_most (int_of e x) (int_of e y), not_at_most (int_of e x) (int_of e y))
negated_form e (Less x y) against h = for e (¬ (IsTrueIn e (Less x y))) _ against h (against_less (int_of e x) (int_of e y), not_less (int_of e x) (int_of e y))
negated_form e t against h = cc
