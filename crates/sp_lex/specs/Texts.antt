-- Texts in quotes. The quote is byte 39.
use Rattle.std.specs.Prelude.{ℕ, ◌==◌, if◌then◌else◌, List, [], ◌∷◌, ◌++◌}
use Rattle.std.specs.List.{flat_map}

-- how a character is written in a text
abbrev pub written : ℕ → List ℕ
written character = if character == 39 then 39 ∷ 39 ∷ [] else character ∷ []

-- a text is a quote, its characters, each quote among them twice, and a quote
abbrev pub text_of : List ℕ → List ℕ
text_of characters = 39 ∷ flat_map written characters ++ 39 ∷ []

-- the characters that bytes inside a text stand for, up to the quote that closes it
unfoldable pub unquoted : List ℕ → List ℕ
unquoted [] = []
unquoted (byte ∷ []) = if byte == 39 then [] else byte ∷ []
unquoted (byte ∷ next ∷ bytes) =
    if byte == 39 then (if next == 39 then 39 ∷ unquoted bytes else [])
    else byte ∷ unquoted (next ∷ bytes)

-- the characters of a text
abbrev pub characters_of : List ℕ → List ℕ
characters_of [] = []
characters_of (quote ∷ inside) = unquoted inside
