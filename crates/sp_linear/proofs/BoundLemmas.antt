-- A polynomial's numbers are no greater than its term's size, and it has as many monomials as its count.
use Rattle.std.proofs.Common.{ℕ, suc, ◌+◌, ◌*◌, ◌≤◌, ◌≡◌, ◌^◌, refl, ◌∙◌, ap, ℤ, pos, negsuc, ◌+ℤ◌, Bool, true, false, cond, List, [], ◌∷◌, ◌++◌, length, unsigned_abs, max, arith, FitsSigned}
use Rattle.std.specs.Int.{w128}
use Rattle.std.proofs.lemmas.Int.{ints, unsigned_abs-mul, fits_signed_from_abs}
use Rattle.std.proofs.Math.Nat.{mul-le-mul}
use Rattle.std.specs.Prelude.{Some}
use Rattle.std.proofs.Common.{subst}
use Rattle.sp_term.specs.Tree.{Tree, Literal, Add, Subtract, Multiply, Equal, Less, LessOrEqual, Not}
use Rattle.sp_linear.specs.Linear.{form_of, form_of_not, negated, hypothesis_sides, sides_of_not, goal_sides, sizes, counts, IsSum, Nothing, One, IsSmall}
use Rattle.sp_linear.specs.Polynomials.{Monomial, number_only, times_one, multiply, polynomial, is_same, coefficient, coefficient_in, size, count}
use Rattle.sp_simp.specs.Same.{tree_eq}
use Rattle.sp_linear.specs.code.Sums.{weight}

pub weight-append : {A : Type 0} (ms ns : List (Monomial A)) → weight (ms ++ ns) ≡ weight ms + weight ns
weight-append [] ns = omega arith
weight-append (m ∷ ms) ns = omega (arith, weight-append ms ns)

pub weight-times_one : {A : Type 0} (m : Monomial A) (ns : List (Monomial A)) → weight (times_one m ns) ≡ unsigned_abs m.number * weight ns
weight-times_one m [] = omega arith
weight-times_one m (n ∷ ns) = omega (arith, weight-times_one m ns, unsigned_abs-mul m.number n.number)

pub weight-multiply : {A : Type 0} (ms ns : List (Monomial A)) → weight (multiply ms ns) ≡ weight ms * weight ns
weight-multiply [] ns = omega arith
weight-multiply (m ∷ ms) ns = omega (arith, weight-append (times_one m ns) (multiply ms ns), weight-times_one m ns, weight-multiply ms ns)

length_append : {A : Type 0} (ms ns : List A) → length (ms ++ ns) ≡ length ms + length ns
length_append [] ns = omega arith
length_append (m ∷ ms) ns = omega (arith, length_append ms ns)

pub length-times_one : {A : Type 0} (m : Monomial A) (ns : List (Monomial A)) → length (times_one m ns) ≡ length ns
length-times_one m [] = refl
length-times_one m (n ∷ ns) = ap suc (length-times_one m ns)

pub length-multiply : {A : Type 0} (ms ns : List (Monomial A)) → length (multiply ms ns) ≡ length ms * length ns
length-multiply [] ns = omega arith
length-multiply (m ∷ ms) ns = omega (arith, length_append (times_one m ns) (multiply ms ns), length-times_one m ns, length-multiply ms ns)

product_le : (a b c d : ℕ) → a ≤ c → b ≤ d → a * b ≤ c * d
product_le a b c d h k = mul-le-mul h k

-- no number in the polynomial, and no sum of them, is greater than the size
pub weight_le_size : (t : Tree) → weight (polynomial t) ≤ size t
weight_le_size (Literal n) = omega arith
weight_le_size (Add x y) = omega (arith, weight-append (polynomial x) (polynomial y), weight_le_size x, weight_le_size y)
weight_le_size (Subtract x y) = omega (arith, weight-append (polynomial x) (times_one (number_only (negsuc 0)) (polynomial y)), weight-times_one (number_only (negsuc 0)) (polynomial y), weight_le_size x, weight_le_size y)
weight_le_size (Multiply x y) = omega (arith, weight-multiply (polynomial x) (polynomial y), product_le (weight (polynomial x)) (weight (polynomial y)) (size x) (size y) (weight_le_size x) (weight_le_size y))
weight_le_size t = omega arith

pub length_is_count : (t : Tree) → length (polynomial t) ≡ count t
length_is_count (Literal n) = refl
length_is_count (Add x y) = omega (arith, length_append (polynomial x) (polynomial y), length_is_count x, length_is_count y)
length_is_count (Subtract x y) = omega (arith, length_append (polynomial x) (times_one (number_only (negsuc 0)) (polynomial y)), length-times_one (number_only (negsuc 0)) (polynomial y), length_is_count x, length_is_count y)
length_is_count (Multiply x y) = length-multiply (polynomial x) (polynomial y) ∙ ap (λ n. n * length (polynomial y)) (length_is_count x) ∙ ap (λ n. count x * n) (length_is_count y)
length_is_count t = refl

abs_sum : (a b : ℤ) → unsigned_abs (a +ℤ b) ≤ unsigned_abs a + unsigned_abs b
abs_sum a b = grind (arith, ints)

pub coefficient_le_weight : {A : Type 0} (same : A → A → Bool) (p : List A) (ms : List (Monomial A)) → unsigned_abs (coefficient same p ms) ≤ weight ms
coefficient_le_weight same p [] = omega arith
coefficient_le_weight same p (m ∷ ms) =
    let rest = coefficient_le_weight same p ms in
    elim (is_same same p m.atoms) as (λ t. unsigned_abs (cond t m.number (pos 0) +ℤ coefficient same p ms) ≤ unsigned_abs m.number + weight ms)
    [ true ↦ omega (arith, rest, abs_sum m.number (coefficient same p ms)) | false ↦ omega (arith, rest, abs_sum (pos 0) (coefficient same p ms)) ]

pub coefficient_fits : (same : Tree → Tree → Bool) (p : List Tree) (t : Tree) → size t ≤ 2 ^ 120 → FitsSigned w128 (coefficient same p (polynomial t))
coefficient_fits same p t h = fits_signed_from_abs w128 (coefficient same p (polynomial t)) (omega (arith, coefficient_le_weight same p (polynomial t), weight_le_size t))

-- ---- the limits of `linear`
some_same : {A : Type 0} (x y : A) → Some x ≡ Some y → x ≡ y
some_same x y h = cc

for : (F : Tree → ℕ) (a b : Tree) (n : ℕ) → Some a ≡ Some b → F a ≤ n → F b ≤ n
for F a b n h k = subst (λ t. F t ≤ n) (some_same a b h) k

form_not_size : (p f : Tree) → form_of_not p ≡ Some f → size f ≤ sides_of_not p size
form_not_size (Less y x) f h = for size _ f _ h (omega arith)
form_not_size (LessOrEqual y x) f h = for size _ f _ h (omega arith)
form_not_size p f h = cc

form_size : (t f : Tree) → form_of t ≡ Some f → size f ≤ hypothesis_sides t size
form_size (LessOrEqual x y) f h = for size _ f _ h (omega arith)
form_size (Less x y) f h = for size _ f _ h (omega arith)
form_size (Equal x y) f h = for size _ f _ h (omega arith)
form_size (Not p) f h = form_not_size p f h
form_size t f h = cc

form_not_count : (p f : Tree) → form_of_not p ≡ Some f → count f ≤ sides_of_not p count
form_not_count (Less y x) f h = for count _ f _ h (omega arith)
form_not_count (LessOrEqual y x) f h = for count _ f _ h (omega arith)
form_not_count p f h = cc

form_count : (t f : Tree) → form_of t ≡ Some f → count f ≤ hypothesis_sides t count
form_count (LessOrEqual x y) f h = for count _ f _ h (omega arith)
form_count (Less x y) f h = for count _ f _ h (omega arith)
form_count (Equal x y) f h = for count _ f _ h (omega arith)
form_count (Not p) f h = form_not_count p f h
form_count t f h = cc

pub negated_size : (t f : Tree) → negated t ≡ Some f → size f ≤ goal_sides t size
negated_size (LessOrEqual x y) f h = for size _ f _ h (omega arith)
negated_size (Less x y) f h = for size _ f _ h (omega arith)
negated_size t f h = cc

negated_count : (t f : Tree) → negated t ≡ Some f → count f ≤ goal_sides t count
negated_count (LessOrEqual x y) f h = for count _ f _ h (omega arith)
negated_count (Less x y) f h = for count _ f _ h (omega arith)
negated_count t f h = cc

times_size : (c s n : ℕ) → s ≤ n → c * s ≤ n * c
times_size c s n h = omega (arith, mul-le-mul {n₁ = c} {m₁ = s} {n₂ = c} {m₂ = n} (omega arith) h)

pub sum_size : (by : List (ℤ × Tree)) (sum : Tree) → IsSum by sum → size sum ≤ sizes by + 1
sum_size _ _ Nothing = omega arith
sum_size _ _ (One c h hs form sum allowed rest) =
    omega (arith, sum_size hs sum rest, times_size (max 1 (unsigned_abs c)) (size form) (hypothesis_sides h size) (form_size h form allowed.has_form))

pub sum_count : (by : List (ℤ × Tree)) (sum : Tree) → IsSum by sum → count sum ≤ counts by + 1
sum_count _ _ Nothing = omega arith
sum_count _ _ (One c h hs form sum allowed rest) = omega (arith, sum_count hs sum rest, form_count h form allowed.has_form)

-- the sum with the negated goal is within 2 ^ 120, so every number that arises fits
pub whole_size : (n0 : ℤ) (by : List (ℤ × Tree)) (goal against sum : Tree) → IsSmall n0 by goal → IsSum by sum → negated goal ≡ Some against → size (Add (Multiply (Literal n0) against) sum) ≤ 2 ^ 120
whole_size n0 by goal against sum small adds is = let s = small.size in
    omega (arith, s, sum_size by sum adds, times_size (max 1 (unsigned_abs n0)) (size against) (goal_sides goal size) (negated_size goal against is))

pub whole_count : (n0 : ℤ) (by : List (ℤ × Tree)) (goal against sum : Tree) → IsSmall n0 by goal → IsSum by sum → negated goal ≡ Some against → count (Add (Multiply (Literal n0) against) sum) ≤ 1025
whole_count n0 by goal against sum small adds is = let s = small.count in
    omega (arith, s, sum_count by sum adds, negated_count goal against is)

-- the sum alone
pub alone_size : (n0 : ℤ) (by : List (ℤ × Tree)) (goal sum : Tree) → IsSmall n0 by goal → IsSum by sum → size sum ≤ 2 ^ 120
alone_size n0 by goal sum small adds = let s = small.size in omega (arith, s, sum_size by sum adds)

-- the two sides of the second way, together
pub both_sizes : (n0 : ℤ) (by : List (ℤ × Tree)) (x y sum : Tree) → IsSmall n0 by (Equal x y) → IsSum by sum → size (Subtract sum (Multiply (Literal n0) (Subtract y x))) ≤ 2 ^ 120
both_sizes n0 by x y sum small adds = let s = small.size in
    omega (arith, s, sum_size by sum adds, times_size (max 1 (unsigned_abs n0)) (size y + size x) (size x + size y + 1) (omega arith))

pub coefficient_le_size : (p : List Tree) (t : Tree) → unsigned_abs (coefficient_in p t) ≤ size t
coefficient_le_size p t = omega (arith, coefficient_le_weight tree_eq p (polynomial t), weight_le_size t)
