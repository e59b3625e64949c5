-- Numbers as they are written.
use Rattle.std.specs.Prelude.{ℕ, ◌+◌, ◌-◌, ◌*◌, Bool, true, false, ◌||◌, ◌==◌, nat_le, nat_lt, if◌then◌else◌, List, [], ◌∷◌, length, take, slice_index, Option, Some, None}
use Rattle.std.specs.Char.{is_ascii_digit, is_ascii_alphabetic, to_ascii_uppercase}

-- the value of a digit, letters of either case being the digits from 10 on; 36, a digit in no base, for other bytes
abbrev pub digit_of : ℕ → ℕ
digit_of byte = if is_ascii_digit byte then byte - 48 else (if is_ascii_alphabetic byte then to_ascii_uppercase byte - 55 else 36)

-- the base that a number's last character names: H, O or Q, D, B
abbrev pub suffix_base : ℕ → Option ℕ
suffix_base last =
    if to_ascii_uppercase last == 72 then Some 16
    else (if to_ascii_uppercase last == 79 || to_ascii_uppercase last == 81 then Some 8
    else (if to_ascii_uppercase last == 68 then Some 10
    else (if to_ascii_uppercase last == 66 then Some 2
    else None)))

-- the value of these digits after digits of this value, if all are digits of the base
abbrev pub value_from : ℕ → ℕ → List ℕ → Option ℕ
value_from base value [] = Some value
value_from base value (digit ∷ digits) =
    if nat_lt (digit_of digit) base then value_from base (value * base + digit_of digit) digits else None

-- the value in the base of the suffix, or in base 10
abbrev pub value_with : Option ℕ → List ℕ → Option ℕ
value_with (Some base) text = value_from base 0 (take (length text - 1) text)
value_with None text = value_from 10 0 text

-- the value of a number, if the text is one: it starts with a digit
unfoldable pub number_of : List ℕ → Option ℕ
number_of [] = None
number_of (first ∷ rest) =
    if is_ascii_digit first then value_with (suffix_base (slice_index (first ∷ rest) (length rest))) (first ∷ rest) else None

-- the value, if it is at most the limit
abbrev pub at_most : ℕ → Option ℕ → Option ℕ
at_most limit None = None
at_most limit (Some value) = if nat_le value limit then Some value else None

-- the largest number: of an annotation, or of a statement
abbrev pub limit_of : Bool → ℕ
limit_of true = 9223372036854775807
limit_of false = 65535
