-- The step `linear` is sound.
use Rattle.std.proofs.Common.{◌≡◌, refl, sym, ◌∙◌, ap, subst, ℤ, pos, negsuc, ◌-ℤ◌, ◌*ℤ◌, ◌<ℤ◌, ◌≤ℤ◌, Bool, true, false, not, List, Some, inl, inr, ◌⊎◌, arith}
use Rattle.std.specs.Prelude.{int_lt, int_le}
use Rattle.std.specs.Ordering.{int_eq}
use Rattle.std.specs.Cmp.{signed_Decides}
use Rattle.std.specs.List.{AllByRecursion}
use Rattle.std.proofs.lemmas.Int.{ints}
use Rattle.std.proofs.Math.IntN.{*ℤ-zero}
use Rattle.sp_term.specs.Tree.{Tree, Literal, Add, Subtract, Multiply, Equal, Less, LessOrEqual, Not}
use Rattle.sp_term.specs.Value.{Env, int_of, IsTrueIn, value}
use Rattle.sp_linear.specs.Polynomials.{polynomial, coefficient_in}
use Rattle.sp_linear.specs.Linear.{form_of, form_of_not, negated, is_equality, IsAllowed, IsSum, Nothing, One, IsNegative, Contradicts, Alone, WithGoal, IsCombined, Concludes, ByContradiction, ByEquations, Follows}
use Rattle.sp_simp.specs.Same.{tree_eq}
use Rattle.sp_linear.proofs.RingLemmas.{not_negative, no_zero}
use Rattle.sp_linear.proofs.PolynomialLemmas.{value_is}
use Rattle.sp_linear.proofs.EqualityLemmas.{trees_told}
use Rattle.sp_linear.proofs.CoefficientLemmas.{same_value, constant_value}

pub same_some : {A : Type 0} (x y : A) → Some x ≡ Some y → x ≡ y
same_some x y h = cc

pub equal_true : (x y : ℤ) → int_eq x y ≡ true → x ≡ y
equal_true x y h = (signed_Decides x y).0 h

pub true_equal : (x y : ℤ) → x ≡ y → int_eq x y ≡ true
true_equal x y h = (signed_Decides x y).1 h

pub less_true : (x y : ℤ) → int_lt x y ≡ true → x <ℤ y
less_true x y h = grind (arith, ints)

pub at_most_true : (x y : ℤ) → int_le x y ≡ true → x ≤ℤ y
at_most_true x y h = grind (arith, ints)

less_false : (x y : ℤ) → not (int_lt x y) ≡ true → y ≤ℤ x
less_false x y h = grind (arith, ints)

at_most_false : (x y : ℤ) → not (int_le x y) ≡ true → y <ℤ x
at_most_false x y h = grind (arith, ints)

above : (x y : ℤ) → x ≤ℤ y → pos 0 ≤ℤ (y -ℤ x)
above x y h = omega (arith, ints)

well_above : (x y : ℤ) → x <ℤ y → pos 0 ≤ℤ ((y -ℤ x) -ℤ pos 1)
well_above x y h = omega (arith, ints)

for : (e : Env) (a b : Tree) → Some a ≡ Some b → pos 0 ≤ℤ int_of e a → pos 0 ≤ℤ int_of e b
for e a b h k = subst (λ t. pos 0 ≤ℤ int_of e t) (same_some a b h) k

form_of_not_holds : (e : Env) (p form : Tree) → not (value e p).truth ≡ true → form_of_not p ≡ Some form → pos 0 ≤ℤ int_of e form
form_of_not_holds e (Less y x) form h k = for e _ form k (above (int_of e x) (int_of e y) (less_false _ _ h))
form_of_not_holds e (LessOrEqual y x) form h k = for e _ form k (well_above (int_of e x) (int_of e y) (at_most_false _ _ h))
form_of_not_holds e t form h k = cc

form_holds : (e : Env) (t form : Tree) → IsTrueIn e t → form_of t ≡ Some form → pos 0 ≤ℤ int_of e form
form_holds e (LessOrEqual x y) form h k = for e _ form k (above (int_of e x) (int_of e y) (at_most_true _ _ h))
form_holds e (Less x y) form h k = for e _ form k (well_above (int_of e x) (int_of e y) (less_true _ _ h))
form_holds e (Equal x y) form h k = for e _ form k (let f = equal_true (int_of e x) (int_of e y) h in omega (arith, ints))
form_holds e (Not p) form h k = form_of_not_holds e p form h k
form_holds e t form h k = cc

form_zero : (e : Env) (t form : Tree) → is_equality t ≡ true → IsTrueIn e t → form_of t ≡ Some form → int_of e form ≡ pos 0
form_zero e (Equal x y) form q h k = let f = equal_true (int_of e x) (int_of e y) h in subst (λ t. int_of e t ≡ pos 0) (same_some _ form k) (omega (arith, ints))
form_zero e t form q h k = cc

part_holds : (e : Env) (c : ℤ) (h form : Tree) → IsTrueIn e h → IsAllowed c h form → (pos 0 ≤ℤ c) ⊎ (is_equality h ≡ true) → pos 0 ≤ℤ (c *ℤ int_of e form)
part_holds e c h form is allowed (inl sign) = not_negative c (int_of e form) sign (form_holds e h form is allowed.has_form)
part_holds e c h form is allowed (inr equal) =
    let f = form_zero e h form equal is allowed.has_form in
    omega (arith, ints, ap (λ z. c *ℤ z) f, *ℤ-zero c)

abbrev pub AreTrue : Env → List (ℤ × Tree) → Type 0
AreTrue e by = AllByRecursion (λ h. IsTrueIn e h.1) by

sum_holds : (e : Env) (by : List (ℤ × Tree)) (sum : Tree) → IsSum by sum → AreTrue e by → pos 0 ≤ℤ int_of e sum
sum_holds e _ _ Nothing is = omega (arith, ints)
sum_holds e _ _ (One c h hs form sum allowed rest) is =
    let f = part_holds e c h form is.0 allowed allowed.sign in
    let g = sum_holds e hs sum rest is.1 in
    omega (arith, ints)

sum_zero : (e : Env) (by : List (ℤ × Tree)) (sum : Tree) → IsSum by sum → AllByRecursion (λ h. is_equality h.1 ≡ true) by → AreTrue e by → int_of e sum ≡ pos 0
sum_zero e _ _ Nothing equal is = refl
sum_zero e _ _ (One c h hs form sum allowed rest) equal is =
    let f = form_zero e h form equal.0 is.0 allowed.has_form in
    let g = sum_zero e hs sum rest equal.1 is.1 in
    omega (arith, ints, ap (λ z. c *ℤ z) f, *ℤ-zero c)

negative : (e : Env) (t : Tree) → IsNegative t → int_of e t <ℤ pos 0
negative e t h =
    let f = constant_value tree_eq trees_told (int_of e) (polynomial t) h.others in
    let g = h.number in
    omega (arith, ints, value_is e t)

negated_holds : (e : Env) (goal against : Tree) → (value e goal).truth ≡ false → negated goal ≡ Some against → pos 0 ≤ℤ int_of e against
negated_holds e (LessOrEqual x y) against h k = for e _ against k (well_above (int_of e y) (int_of e x) (at_most_false _ _ (ap not h)))
negated_holds e (Less x y) against h k = for e _ against k (above (int_of e y) (int_of e x) (less_false _ _ (ap not h)))
negated_holds e t against h k = cc

by_contradiction : (e : Env) (n0 : ℤ) (sum goal : Tree) → pos 0 ≤ℤ n0 → pos 0 ≤ℤ int_of e sum → Contradicts n0 sum goal → (b : Bool) → (value e goal).truth ≡ b → b ≡ true
by_contradiction e n0 sum goal n h c true is = refl
by_contradiction e n0 sum _ n h (Alone goal z k) false is = let f = negative e sum k in absurd (omega (arith, ints))
by_contradiction e n0 sum _ n h (WithGoal goal against k m) false is =
    let f = negative e (Add (Multiply (Literal n0) against) sum) m in
    let g = not_negative n0 (int_of e against) n (negated_holds e goal against is k) in
    absurd (omega (arith, ints))

no_zero_of : (n z : ℤ) → pos 1 ≤ℤ n → n *ℤ z ≡ pos 0 → z ≡ pos 0
no_zero_of (pos n) z h e = no_zero n z (omega (arith, ints)) e
no_zero_of (negsuc n) z h e = absurd (omega (arith, ints))

by_equations : (e : Env) (n0 : ℤ) (by : List (ℤ × Tree)) (sum x y : Tree) → int_of e sum ≡ pos 0 → IsCombined n0 by sum x y → int_of e x ≡ int_of e y
by_equations e n0 by sum x y z c =
    let right = Multiply (Literal n0) (Subtract y x) in
    let f = same_value tree_eq trees_told (int_of e) (polynomial sum) (polynomial right) c.same_sum in
    let g : n0 *ℤ (int_of e y -ℤ int_of e x) ≡ pos 0 = sym (value_is e right) ∙ sym f ∙ value_is e sum ∙ z in
    let k = no_zero_of n0 (int_of e y -ℤ int_of e x) c.positive g in
    omega (arith, ints)

concluded : (e : Env) (n0 : ℤ) (by : List (ℤ × Tree)) (sum goal : Tree) → pos 0 ≤ℤ n0 → IsSum by sum → Concludes n0 by sum goal → AreTrue e by → IsTrueIn e goal
concluded e n0 by sum _ n s (ByContradiction goal c) is = by_contradiction e n0 sum goal n (sum_holds e by sum s is) c (value e goal).truth refl
concluded e n0 by sum _ n s (ByEquations x y c) is = true_equal (int_of e x) (int_of e y) (by_equations e n0 by sum x y (sum_zero e by sum s c.equations is) c)

-- where the hypotheses named are true, so is the goal
pub linear_sound : (e : Env) (n0 : ℤ) (by : List (ℤ × Tree)) (goal : Tree) → Follows n0 by goal → AreTrue e by → IsTrueIn e goal
linear_sound e n0 by goal f is = concluded e n0 by f.concludes.0 goal f.multiplier f.concludes.1 f.concludes.2 is

pub values_same : (s t : Tree) → ((p : List Tree) → coefficient_in p s ≡ coefficient_in p t) → (e : Env) → int_of e s ≡ int_of e t
values_same s t h e = sym (value_is e s) ∙ same_value tree_eq trees_told (int_of e) (polynomial s) (polynomial t) h ∙ value_is e t
