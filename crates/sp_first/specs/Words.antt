-- The lines of a text and the words of a line.
use Rattle.std.specs.Prelude.{◌≡◌, ℕ, Bool, false, not, ◌||◌, List, [], ◌∷◌, ◌++◌, ◌==◌, if◌then◌else◌}

-- a blank or a tab
abbrev pub is_blank : ℕ → Bool
is_blank byte = byte == 32 || byte == 9

-- `,` or `=`
abbrev pub is_mark : ℕ → Bool
is_mark byte = byte == 44 || byte == 61

-- these bytes, and then the first of the pieces
abbrev pub joined : List ℕ → List (List ℕ) → List (List ℕ)
joined front [] = front ∷ []
joined front (piece ∷ pieces) = (front ++ piece) ∷ pieces

-- each line feed ends a line; the last line may have none
abbrev pub lines : List ℕ → List (List ℕ)
lines [] = []
lines (byte ∷ bytes) = if byte == 10 then [] ∷ lines bytes else joined (byte ∷ []) (lines bytes)

-- whether the bytes begin with one that a word can go on with
abbrev pub goes_on : List ℕ → Bool
goes_on [] = false
goes_on (byte ∷ bytes) = not (is_blank byte || is_mark byte)

-- Blanks divide words. A `,` or a `=` is a word of its own, and a `:` is the last of its word.
abbrev pub words : List ℕ → List (List ℕ)
words [] = []
words (byte ∷ bytes) =
    if is_blank byte then words bytes else
    (if is_mark byte || byte == 58 || not (goes_on bytes) then (byte ∷ []) ∷ words bytes else joined (byte ∷ []) (words bytes))

-- there is no byte, or the first isn't a blank
abbrev pub BeginsWithWord : List ℕ → Type 0
BeginsWithWord [] = Unit {0}
BeginsWithWord (byte ∷ bytes) = is_blank byte ≡ false
