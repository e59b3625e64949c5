-- Shifts of numbers of 64 bits are quotients by powers of 2.
use Rattle.std.proofs.Common.{ℕ, zero, suc, ◌^◌, ◌/◌, ◌<◌, ◌≡◌, refl, sym, ◌∙◌, ap, arith, min, ℤ, pos, negsuc}
use Rattle.std.specs.Int.Signed.{shr_z, mag}
use Rattle.std.proofs.Math.Nat.{div-eq_of_lt}
use Rattle.std.proofs.lemmas.Nat.{pow_pos, pow_below}
use Rattle.std.proofs.lemmas.Int.{ints, by_lt_z}
use Rattle.sp_base.specs.Integers.{quotient}

divided : (x : ℤ) (n : ℕ) → 0 < n → quotient x (pos n) ≡ shr_z x n
divided x zero h = absurd (omega arith)
divided (pos a) (suc n) h = refl
divided (negsuc a) (suc n) h = refl

-- a shift by more than 63 is one by 63
few : (a k : ℕ) → a < 2 ^ 63 → a / 2 ^ k ≡ a / 2 ^ min k 63
few a k h = by_lt_z (pos 63) (pos k)
    (λ l.
    let more : 63 < k = omega (arith, ints, l) in
    let least : min k 63 ≡ 63 = omega arith in
    let high : a < 2 ^ k = omega (arith, h, pow_below 63 k more) in
    div-eq_of_lt high ∙ sym (ap (λ n. a / 2 ^ n) least ∙ div-eq_of_lt h))
    (λ l. let least : min k 63 ≡ k = omega (arith, ints, l) in ap (λ n. a / 2 ^ n) (sym least))

shift_few : (x : ℤ) (k : ℕ) → mag x < 2 ^ 63 → shr_z x (2 ^ k) ≡ shr_z x (2 ^ min k 63)
shift_few (pos a) k h = ap pos (few a k h)
shift_few (negsuc a) k h = ap negsuc (few a k h)

pub shifted : (x : ℤ) (k : ℕ) → mag x < 2 ^ 63 → quotient x (pos (2 ^ k)) ≡ shr_z x (2 ^ min k 63)
shifted x k h = divided x (2 ^ k) (pow_pos k) ∙ shift_few x k h
