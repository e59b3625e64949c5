-- Division by a number above 0.
use Rattle.std.proofs.Common.{◌≡◌, ◌≢◌, inl, inr, refl, sym, ◌∙◌, ap, subst, arith, Bool, true, false, ℤ, pos}
use Rattle.std.specs.Prelude.{int_lt, int_le, ◌<ℤ◌, ◌≤ℤ◌, ◌+ℤ◌, ◌-ℤ◌, ◌*ℤ◌}
use Rattle.std.proofs.lemmas.Int.{ints, by_lt_z}
use Rattle.sp_base.specs.Integers.{quotient, remainder, IsDivision}
use Rattle.sp_base.proofs.IntegerLemmas.{divides}
use Rattle.sp_simp.proofs.ProductLemmas.{dist, dist_right, dist_sub, assoc, one-times, not_negative}
use Rattle.std.proofs.Math.IntN.{*ℤ_comm, zero-*ℤ}

pub le_true : (a b : ℤ) → a ≤ℤ b → int_le a b ≡ true
le_true a b h = by (int_le a b) refl
  where
    by : (t : Bool) → int_le a b ≡ t → t ≡ true
    by true e = refl
    by false e = absurd (omega (arith, ints))

pub lt_true : (a b : ℤ) → a <ℤ b → int_lt a b ≡ true
lt_true a b h = by (int_lt a b) refl
  where
    by : (t : Bool) → int_lt a b ≡ t → t ≡ true
    by true e = refl
    by false e = absurd (omega (arith, ints))

positive_some : (d : ℤ) → int_lt (pos 0) d ≡ true → d ≢ pos 0
positive_some d h e = let k : int_lt (pos 0) (pos 0) ≡ true = subst (λ w. int_lt (pos 0) w ≡ true) e h in cc

pub division : (x d : ℤ) → int_lt (pos 0) d ≡ true → IsDivision x d (quotient x d) (remainder x d)
division x d h = divides x d (positive_some d h)

pub remainder_within : (c d : ℤ) → int_lt (pos 0) d ≡ true → (int_le (pos 0) (remainder c d) ≡ true) × (int_lt (remainder c d) d ≡ true)
remainder_within c d h = elim (division c d h).between [
  | inl b ↦ (le_true (pos 0) (remainder c d) b.0, lt_true (remainder c d) d b.1)
  | inr b ↦ absurd (omega (arith, ints, b.0, b.1, h))
]

-- a number below another one by at least one makes a product below by at least one factor
product_below : (p q d : ℤ) → pos 0 ≤ℤ d → p <ℤ q → ((p *ℤ d) +ℤ d) ≤ℤ (q *ℤ d)
product_below p q d h l =
    let room : pos 0 ≤ℤ ((q -ℤ p) -ℤ pos 1) = omega (arith, ints) in
    omega (arith, ints, not_negative ((q -ℤ p) -ℤ pos 1) d room h, dist_sub (q -ℤ p) (pos 1) d, dist_sub q p d, one-times d)

pub product_up : (d p q : ℤ) → pos 0 ≤ℤ d → p ≤ℤ q → (d *ℤ p) ≤ℤ (d *ℤ q)
product_up d p q h l =
    let room : pos 0 ≤ℤ (q -ℤ p) = omega (arith, ints) in
    omega (arith, ints, not_negative (q -ℤ p) d room h, dist_sub q p d, *ℤ_comm d p, *ℤ_comm d q)

pub product_down : (d p q : ℤ) → d ≤ℤ pos 0 → p ≤ℤ q → (d *ℤ q) ≤ℤ (d *ℤ p)
product_down d p q h l =
    let room : pos 0 ≤ℤ (q -ℤ p) = omega (arith, ints) in
    let turned : pos 0 ≤ℤ (pos 0 -ℤ d) = omega (arith, ints) in
    omega (arith, ints, not_negative (pos 0 -ℤ d) (q -ℤ p) turned room, dist_sub (pos 0) d (q -ℤ p), zero-*ℤ (q -ℤ p), *ℤ_comm d (q -ℤ p), dist_sub q p d, *ℤ_comm d p, *ℤ_comm d q)

-- a number has one quotient and one remainder that lies from 0 and below the divisor
one_quotient : (p q r s d : ℤ) → (p *ℤ d) +ℤ r ≡ (q *ℤ d) +ℤ s → pos 0 ≤ℤ r → r <ℤ d → pos 0 ≤ℤ s → s <ℤ d → p ≡ q
one_quotient p q r s d e r0 rd s0 sd =
    let up : pos 0 ≤ℤ d = omega (arith, ints) in
    by_lt_z p q (λ l. absurd (omega (arith, ints, product_below p q d up l, e)))
    (λ g. by_lt_z q p (λ l. absurd (omega (arith, ints, product_below q p d up l, e))) (λ k. omega (arith, ints)))

pub divided_as : (x d q r : ℤ) → int_lt (pos 0) d ≡ true → x ≡ (q *ℤ d) +ℤ r → pos 0 ≤ℤ r → r <ℤ d → (quotient x d ≡ q) × (remainder x d ≡ r)
divided_as x d q r h e r0 rd =
    let v = division x d h in
    let w = remainder_within x d h in
    let low : pos 0 ≤ℤ remainder x d = omega (arith, ints, w.0) in
    let high : remainder x d <ℤ d = omega (arith, ints, w.1) in
    let one : quotient x d ≡ q = one_quotient (quotient x d) q (remainder x d) r d (sym v.whole ∙ e) low high r0 rd in
    let same = ap (λ z. z *ℤ d) one in
    (one, omega (arith, ints, same, v.whole, e))

-- a multiple of the divisor more leaves the remainder
pub remainder_shift : (k z d : ℤ) → int_lt (pos 0) d ≡ true → remainder ((k *ℤ d) +ℤ z) d ≡ remainder z d
remainder_shift k z d h =
    let v = division z d h in
    let w = remainder_within z d h in
    (divided_as ((k *ℤ d) +ℤ z) d (k +ℤ quotient z d) (remainder z d) h (omega (arith, ints, v.whole, dist_right k (quotient z d) d)) (omega (arith, ints, w.0)) (omega (arith, ints, w.1))).1

-- a divisor of the divisor
multiple_of_divisor : (x c d : ℤ) → int_lt (pos 0) c ≡ true → int_lt (pos 0) d ≡ true → remainder c d ≡ pos 0 → x ≡ ((quotient x c *ℤ quotient c d) *ℤ d) +ℤ remainder x c
multiple_of_divisor x c d hc hd z =
    let v = division x c hc in
    let w = division c d hd in
    let times = ap (λ n. quotient x c *ℤ n) w.whole in
    let split = dist (quotient x c) (quotient c d *ℤ d) (remainder c d) in
    let none = ap (λ n. quotient x c *ℤ n) z in
    let zero = *ℤ_comm (quotient x c) (pos 0) ∙ zero-*ℤ (quotient x c) in
    omega (arith, ints, v.whole, times, split, none, zero, assoc (quotient x c) (quotient c d) d)

grouped : (a b c : ℤ) → (a +ℤ b) +ℤ c ≡ a +ℤ (b +ℤ c)
grouped a b c = omega (arith, ints)

pub remainder_again : (x y c d : ℤ) → int_lt (pos 0) c ≡ true → int_lt (pos 0) d ≡ true → remainder c d ≡ pos 0 → remainder (x +ℤ y) d ≡ remainder (remainder x c +ℤ y) d
remainder_again x y c d hc hd z =
    ap (λ w. remainder (w +ℤ y) d) (multiple_of_divisor x c d hc hd z)
    ∙ ap (λ w. remainder w d) (grouped ((quotient x c *ℤ quotient c d) *ℤ d) (remainder x c) y)
    ∙ remainder_shift (quotient x c *ℤ quotient c d) (remainder x c +ℤ y) d hd

pub remainder_of_remainder : (x c d : ℤ) → int_lt (pos 0) c ≡ true → int_lt (pos 0) d ≡ true → remainder c d ≡ pos 0 → remainder x d ≡ remainder (remainder x c) d
remainder_of_remainder x c d hc hd z =
    ap (λ w. remainder w d) (multiple_of_divisor x c d hc hd z) ∙ remainder_shift (quotient x c *ℤ quotient c d) (remainder x c) d hd

exchanged : (x a b : ℤ) → x +ℤ (a +ℤ b) ≡ a +ℤ (x +ℤ b)
exchanged x a b = omega (arith, ints)

pub remainder_of_offset : (x c d : ℤ) → int_lt (pos 0) d ≡ true → remainder (x +ℤ c) d ≡ remainder (x +ℤ remainder c d) d
remainder_of_offset x c d h =
    ap (λ w. remainder (x +ℤ w) d) (division c d h).whole
    ∙ ap (λ w. remainder w d) (exchanged x (quotient c d *ℤ d) (remainder c d))
    ∙ remainder_shift (quotient c d) (x +ℤ remainder c d) d h

pub quotient_up : (x y d : ℤ) → int_lt (pos 0) d ≡ true → x ≤ℤ y → quotient x d ≤ℤ quotient y d
quotient_up x y d h l =
    let a = division x d h in
    let b = division y d h in
    let v = remainder_within x d h in
    let w = remainder_within y d h in
    by_lt_z (quotient y d) (quotient x d)
    (λ less. absurd (omega (arith, ints, product_below (quotient y d) (quotient x d) d (omega (arith, ints, h)) less, a.whole, b.whole, v.0, v.1, w.0, w.1)))
    (λ g. g)
