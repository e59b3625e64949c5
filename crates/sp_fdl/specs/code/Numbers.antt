-- How the reader takes numbers from digits.
use Rattle.std.specs.Prelude.{ℕ, ◌+◌, ◌-◌, ◌*◌, nat_le, nat_lt, ◌==◌, if◌then◌else◌, List, [], ◌∷◌, Option, Some, None, ℤ, pos, neg_ℤ}
use Rattle.std.specs.Char.{is_ascii_digit}
use Rattle.sp_fdl.specs.code.Tokens.{◌>>=◌}

-- the value of a digit; 10 for other bytes
abbrev pub digit_of : ℕ → ℕ
digit_of byte = if is_ascii_digit byte then byte - 48 else 10

-- the value of these digits after digits of this value, if all are digits
abbrev pub value_from : ℕ → List ℕ → Option ℕ
value_from value [] = Some value
value_from value (digit ∷ digits) = if nat_lt (digit_of digit) 10 then value_from (value * 10 + digit_of digit) digits else None

-- the value, if it is at most the limit
abbrev pub at_most : ℕ → Option ℕ → Option ℕ
at_most limit None = None
at_most limit (Some value) = if nat_le value limit then Some value else None

-- the number of a name: without leading zeros
unfoldable pub name_number : List ℕ → Option ℕ
name_number [] = None
name_number (first ∷ digits) = if first == 48 then None else at_most 4294967295 (value_from 0 (first ∷ digits))

unfoldable pub literal : List ℕ → Option ℤ
literal [] = None
literal (first ∷ digits) = at_most 9223372036854775807 (value_from 0 (first ∷ digits)) >>= λ n. Some (pos n)

unfoldable pub negative_literal : List ℕ → Option ℤ
negative_literal [] = None
negative_literal (first ∷ digits) = at_most 9223372036854775808 (value_from 0 (first ∷ digits)) >>= λ n. Some (neg_ℤ (pos n))
