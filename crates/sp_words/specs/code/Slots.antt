-- Reading the number of a word STKk.
use Rattle.std.specs.Prelude.{ℕ, ◌+◌, ◌-◌, ◌*◌, ◌&&◌, ◌==◌, nat_eq, nat_le, nat_lt, if◌then◌else◌, List, [], ◌∷◌, length, take, drop, codes, Option, Some, None}
use Rattle.std.specs.Option.{option_and_then}
use Rattle.std.specs.Char.{is_ascii_digit}
use Rattle.std.specs.Cmp.Lexicographic.{pointwise}

-- a number with one digit more
abbrev pub with_digit : ℕ → ℕ → Option ℕ
with_digit number digit =
    if is_ascii_digit digit && nat_le (number * 10 + (digit - 48)) 32767 then Some (number * 10 + (digit - 48)) else None

-- a number with these digits more
unfoldable pub number_after : ℕ → List ℕ → Option ℕ
number_after number [] = Some number
number_after number (digit ∷ digits) = option_and_then (λ next. number_after next digits) (with_digit number digit)

-- the number of these digits, from 1 to 32,767 and without leading zeros
abbrev pub slot_number : List ℕ → Option ℕ
slot_number [] = None
slot_number (digit ∷ digits) = if digit == 48 then None else number_after 0 (digit ∷ digits)

-- the k of a word STKk
abbrev pub slot_named : List ℕ → Option ℕ
slot_named word =
    if nat_lt (length word) 3 then None
    else (if pointwise nat_eq (take 3 word) (codes "STK") then slot_number (drop 3 word) else None)
