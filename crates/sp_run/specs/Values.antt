-- The values of options (this project's own). Numbers are those of the assembler.
use Rattle.std.specs.Prelude.{ℕ, ◌==◌, Bool, if◌then◌else◌, List, Option, None, option_map}
use Rattle.std.specs.List.{list_all}
use Rattle.std.specs.Char.{is_ascii_digit}
use Rattle.sp_lex.specs.Numbers.{at_most, number_of}

abbrev pub byte_of : List ℕ → Option ℕ
byte_of text = at_most 255 (number_of text)

abbrev pub word_of : List ℕ → Option ℕ
word_of text = at_most 65535 (number_of text)

-- a number that is 0 or 1
abbrev pub bit_of : List ℕ → Option Bool
bit_of text = option_map (λ n. n == 1) (at_most 1 (number_of text))

-- a number of steps, in decimal digits alone
abbrev pub count_of : List ℕ → Option ℕ
count_of text = if list_all is_ascii_digit text then at_most 1000000 (number_of text) else None
