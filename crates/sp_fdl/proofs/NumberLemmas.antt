-- The value of digits, one after another.
use Rattle.std.proofs.Common.{◌≡◌, ℕ, ◌+◌, ◌*◌, ◌<◌, true, false, cond, ltb, List, [], ◌∷◌, length, get_or, drop, Some, None, refl, ◌∙◌, arith}
use Rattle.std.proofs.lemmas.List.{at_drop_more}
use Rattle.sp_fdl.specs.code.Numbers.{digit_of, at_most, value_from}

at_most-none : (limit value : ℕ) → at_most limit (Some value) ≡ None → limit < value
at_most-none limit value e = grind arith

-- a value past the limit stays past it
value_from-past : (limit value : ℕ) (digits : List ℕ) → limit < value → at_most limit (value_from value digits) ≡ None
value_from-past limit value [] past = grind arith
value_from-past limit value (digit ∷ digits) past =
    let more : limit < value * 10 + digit_of digit = omega arith in
    elim (ltb (digit_of digit) 10) as (λ b. at_most limit (cond b (value_from (value * 10 + digit_of digit) digits) None) ≡ None) [
      | true ↦ value_from-past limit (value * 10 + digit_of digit) digits more
      | false ↦ refl
    ]

pub value_from-too_large : (limit value : ℕ) (digits : List ℕ) (i digit : ℕ) → i < length digits → digit_of (get_or digits i 0) ≡ digit → digit < 10
    → at_most limit (Some (value * 10 + digit)) ≡ None → at_most limit (value_from value (drop i digits)) ≡ None
value_from-too_large limit value digits i digit lt is fits over =
    let past : limit < value * 10 + digit = at_most-none limit (value * 10 + digit) over in
    let test : ltb (digit_of (get_or digits i 0)) 10 ≡ true = grind arith in
    at_drop_more (λ ds. at_most limit (value_from value ds)) digits i 0 lt
    ∙ rw (test, is) (value_from-past limit (value * 10 + digit) (drop (i + 1) digits) past)
