-- Names as they are written.
use Rattle.std.specs.Prelude.{ℕ, List, map}
use Rattle.std.specs.Char.{to_ascii_uppercase}

-- the text in upper case: names that fold to one text are one name
abbrev pub folded : List ℕ → List ℕ
folded text = map to_ascii_uppercase text
