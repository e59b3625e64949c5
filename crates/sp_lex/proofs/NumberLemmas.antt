-- The value of digits, one after another.
use Rattle.std.proofs.Common.{◌≡◌, ℕ, ◌+◌, ◌*◌, ◌<◌, ◌≤◌, true, false, cond, ltb, List, [], ◌∷◌, length, get_or, drop, Some, None, refl, ◌∙◌, arith}
use Rattle.std.proofs.Math.Nat.{mul-le-mul_left}
use Rattle.std.proofs.lemmas.List.{at_drop_more}
use Rattle.sp_lex.specs.Numbers.{digit_of, at_most, value_from}

pub at_most-some : (limit value found : ℕ) → at_most limit (Some value) ≡ Some found → (value ≡ found) × (found ≤ limit)
at_most-some limit value found e = grind arith

at_most-none : (limit value : ℕ) → at_most limit (Some value) ≡ None → limit < value
at_most-none limit value e = grind arith

-- a value past the limit stays past it
pub value_from-past : (limit base value : ℕ) (digits : List ℕ) → 0 < base → limit < value → at_most limit (value_from base value digits) ≡ None
value_from-past limit base value [] some past = grind arith
value_from-past limit base value (digit ∷ digits) some past =
    let more : limit < value * base + digit_of digit = omega (arith, mul-le-mul_left value some) in
    elim (ltb (digit_of digit) base) as (λ b. at_most limit (cond b (value_from base (value * base + digit_of digit) digits) None) ≡ None) [
      | true ↦ value_from-past limit base (value * base + digit_of digit) digits some more
      | false ↦ refl
    ]

pub value_from-too_large : (limit base value : ℕ) (digits : List ℕ) (i digit : ℕ) → i < length digits → 0 < base → digit_of (get_or digits i 0) ≡ digit → digit < base
    → at_most limit (Some (value * base + digit)) ≡ None → at_most limit (value_from base value (drop i digits)) ≡ None
value_from-too_large limit base value digits i digit lt some is fits over =
    let past : limit < value * base + digit = at_most-none limit (value * base + digit) over in
    let test : ltb (digit_of (get_or digits i 0)) base ≡ true = grind arith in
    at_drop_more (λ ds. at_most limit (value_from base value ds)) digits i 0 lt
    ∙ rw (test, is) (value_from-past limit base (value * base + digit) (drop (i + 1) digits) some past)
