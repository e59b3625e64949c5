-- Polynomials taken up to a place.
use Rattle.std.proofs.Common.{ℕ, zero, suc, ◌+◌, ◌*◌, ◌<◌, ◌≤◌, ◌≡◌, ◌^◌, refl, sym, ◌∙◌, ap, ◌+ℤ◌, ◌*ℤ◌, Bool, List, [], ◌∷◌, ◌++◌, length, get_or, take, unsigned_abs, arith, append_assoc, FitsSigned}
use Rattle.std.specs.Int.{w128}
use Rattle.std.proofs.lemmas.Int.{ints, unsigned_abs-mul, fits_signed_from_abs}
use Rattle.std.proofs.Math.Nat.{mul-le-mul}
use Rattle.sp_linear.specs.Polynomials.{Monomial, times_monomial, times_one, multiply, share, coefficient}
use Rattle.sp_linear.specs.code.Sums.{weight}

append_nil : {A : Type 0} (l : List A) → l ++ [] ≡ l
append_nil [] = refl
append_nil (x ∷ l) = ap (λ r. x ∷ r) (append_nil l)

next : (i : ℕ) → suc i + 1 ≡ suc (i + 1)
next i = omega arith

pub times_one-more : (m : Monomial ℕ) (ns : List (Monomial ℕ)) (i : ℕ) (d : Monomial ℕ) → i < length ns → times_one m (take (i + 1) ns) ≡ times_one m (take i ns) ++ times_monomial m (get_or ns i d) ∷ []
times_one-more m [] i d h = absurd (omega (arith, h))
times_one-more m (n ∷ ns) zero d h = refl
times_one-more m (n ∷ ns) (suc i) d h = rw (next i) (ap (λ l. times_monomial m n ∷ l) (times_one-more m ns i d (omega (arith, h))))

pub multiply-more : (ms ns : List (Monomial ℕ)) (i : ℕ) (d : Monomial ℕ) → i < length ms → multiply (take (i + 1) ms) ns ≡ multiply (take i ms) ns ++ times_one (get_or ms i d) ns
multiply-more [] ns i d h = absurd (omega (arith, h))
multiply-more (m ∷ ms) ns zero d h = append_nil (times_one m ns)
multiply-more (m ∷ ms) ns (suc i) d h = rw (next i) (ap (λ l. times_one m ns ++ l) (multiply-more ms ns i d (omega (arith, h))) ∙ sym (append_assoc (times_one m ns) (multiply (take i ms) ns) (times_one (get_or ms i d) ns)))

pub weight-at : (ms : List (Monomial ℕ)) (i : ℕ) (d : Monomial ℕ) → i < length ms → unsigned_abs (get_or ms i d).number ≤ weight ms
weight-at [] i d h = absurd (omega (arith, h))
weight-at (m ∷ ms) zero d h = omega arith
weight-at (m ∷ ms) (suc i) d h = omega (arith, weight-at ms i d (omega (arith, h)))

pub weight-more : (ms : List (Monomial ℕ)) (i : ℕ) (d : Monomial ℕ) → i < length ms → weight (take (i + 1) ms) ≡ weight (take i ms) + unsigned_abs (get_or ms i d).number
weight-more [] i d h = absurd (omega (arith, h))
weight-more (m ∷ ms) zero d h = omega arith
weight-more (m ∷ ms) (suc i) d h = rw (next i) (omega (arith, weight-more ms i d (omega (arith, h))))

pub weight-take : (ms : List (Monomial ℕ)) (i : ℕ) → weight (take i ms) ≤ weight ms
weight-take [] zero = omega arith
weight-take [] (suc i) = omega arith
weight-take (m ∷ ms) zero = omega arith
weight-take (m ∷ ms) (suc i) = omega (arith, weight-take ms i)

pub joined_fits : (m : Monomial ℕ) (ns : List (Monomial ℕ)) (i : ℕ) (d : Monomial ℕ) → i < length ns → unsigned_abs m.number * weight ns < 2 ^ 127 → FitsSigned w128 (m.number *ℤ (get_or ns i d).number)
joined_fits m ns i d h s =
    let f : unsigned_abs m.number * unsigned_abs (get_or ns i d).number ≤ unsigned_abs m.number * weight ns = mul-le-mul {n₁ = unsigned_abs m.number} (omega arith) (weight-at ns i d h) in
    fits_signed_from_abs w128 (m.number *ℤ (get_or ns i d).number) (omega (arith, unsigned_abs-mul m.number (get_or ns i d).number))

pub part_small : (ms ns : List (Monomial ℕ)) (i : ℕ) (d : Monomial ℕ) → i < length ms → weight ms * weight ns < 2 ^ 127 → unsigned_abs (get_or ms i d).number * weight ns < 2 ^ 127
part_small ms ns i d h s =
    let f : unsigned_abs (get_or ms i d).number * weight ns ≤ weight ms * weight ns = mul-le-mul {m₁ = weight ns} (weight-at ms i d h) (omega arith) in
    omega arith

pub coefficient-more : (p : List ℕ) (same : ℕ → ℕ → Bool) (ms : List (Monomial ℕ)) (i : ℕ) (d : Monomial ℕ) → i < length ms → coefficient same p (take (i + 1) ms) ≡ coefficient same p (take i ms) +ℤ share same p (get_or ms i d)
coefficient-more p same [] i d h = absurd (omega (arith, h))
coefficient-more p same (m ∷ ms) zero d h = omega (arith, ints)
coefficient-more p same (m ∷ ms) (suc i) d h = rw (next i) (omega (arith, ints, coefficient-more p same ms i d (omega (arith, h))))
