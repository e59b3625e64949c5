-- The value of a polynomial is that of its term.
use Rattle.std.proofs.Common.{◌≡◌, sym, ◌∙◌, ap, ℤ, pos, negsuc, ◌+ℤ◌, ◌-ℤ◌, ◌*ℤ◌, List, [], ◌∷◌, ◌++◌, arith}
use Rattle.std.proofs.lemmas.Int.{ints}
use Rattle.std.proofs.Math.IntN.{zero-*ℤ, *ℤ-zero}
use Rattle.sp_term.specs.Tree.{Tree, Literal, Add, Subtract, Multiply}
use Rattle.sp_term.specs.Value.{Env, int_of}
use Rattle.sp_linear.specs.Polynomials.{Monomial, number_only, times_one, multiply, polynomial}
use Rattle.sp_linear.specs.code.Sums.{product_value, sum_value}
use Rattle.sp_linear.proofs.RingLemmas.{dist, dist_right, assoc, four, one-times, times-one, minus_one-times}

pub sum-append : {A : Type 0} (v : A → ℤ) (ms ns : List (Monomial A)) → sum_value v (ms ++ ns) ≡ sum_value v ms +ℤ sum_value v ns
sum-append v [] ns = omega (arith, ints)
sum-append v (m ∷ ms) ns = omega (arith, ints, sum-append v ms ns)

pub product-append : {A : Type 0} (v : A → ℤ) (p q : List A) → product_value v (p ++ q) ≡ product_value v p *ℤ product_value v q
product-append v [] q = sym (one-times (product_value v q))
product-append v (a ∷ p) q = ap (λ z. v a *ℤ z) (product-append v p q) ∙ sym (assoc (v a) (product_value v p) (product_value v q))

pub sum-times_one : {A : Type 0} (v : A → ℤ) (m : Monomial A) (ns : List (Monomial A)) → sum_value v (times_one m ns) ≡ (m.number *ℤ product_value v m.atoms) *ℤ sum_value v ns
sum-times_one v m [] = sym (*ℤ-zero (m.number *ℤ product_value v m.atoms))
sum-times_one v m (n ∷ ns) =
    let first : (m.number *ℤ n.number) *ℤ product_value v (m.atoms ++ n.atoms) ≡ (m.number *ℤ product_value v m.atoms) *ℤ (n.number *ℤ product_value v n.atoms) = ap (λ z. (m.number *ℤ n.number) *ℤ z) (product-append v m.atoms n.atoms) ∙ four m.number n.number (product_value v m.atoms) (product_value v n.atoms) in
    omega (arith, ints, first, sum-times_one v m ns, dist (m.number *ℤ product_value v m.atoms) (n.number *ℤ product_value v n.atoms) (sum_value v ns))

pub sum-multiply : {A : Type 0} (v : A → ℤ) (ms ns : List (Monomial A)) → sum_value v (multiply ms ns) ≡ sum_value v ms *ℤ sum_value v ns
sum-multiply v [] ns = sym (zero-*ℤ (sum_value v ns))
sum-multiply v (m ∷ ms) ns =
    omega (arith, ints, sum-append v (times_one m ns) (multiply ms ns), sum-times_one v m ns, sum-multiply v ms ns, dist_right (m.number *ℤ product_value v m.atoms) (sum_value v ms) (sum_value v ns))

pub sum-minus : {A : Type 0} (v : A → ℤ) (ns : List (Monomial A)) → sum_value v (times_one (number_only (negsuc 0)) ns) ≡ pos 0 -ℤ sum_value v ns
sum-minus v ns = sum-times_one v (number_only (negsuc 0)) ns ∙ ap (λ z. z *ℤ sum_value v ns) (times-one (negsuc 0)) ∙ minus_one-times (sum_value v ns)

one_atom : (z : ℤ) → (pos 1 *ℤ (z *ℤ pos 1)) +ℤ pos 0 ≡ z
one_atom z = omega (arith, ints, one-times (z *ℤ pos 1), times-one z)

pub value_is : (e : Env) (t : Tree) → sum_value (int_of e) (polynomial t) ≡ int_of e t
value_is e (Literal n) = omega (arith, ints, times-one n)
value_is e (Add x y) = omega (arith, ints, sum-append (int_of e) (polynomial x) (polynomial y), value_is e x, value_is e y)
value_is e (Subtract x y) = omega (arith, ints, sum-append (int_of e) (polynomial x) (times_one (number_only (negsuc 0)) (polynomial y)), sum-minus (int_of e) (polynomial y), value_is e x, value_is e y)
value_is e (Multiply x y) = sum-multiply (int_of e) (polynomial x) (polynomial y) ∙ ap (λ z. z *ℤ sum_value (int_of e) (polynomial y)) (value_is e x) ∙ ap (λ z. int_of e x *ℤ z) (value_is e y)
value_is e t = one_atom (int_of e t)
