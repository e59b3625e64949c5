-- Lines of texts: of sources, of HEX texts and of scripts. A line feed, 10, ends a line, and so does a carriage return,
-- 13, with a line feed after it. What stands after the last line feed is a line too, where that isn't empty. Any other
-- carriage return is a byte of its line. This is the project's own choice; it is what Rust's `str::lines` does.
use Rattle.std.specs.Prelude.{◌≡◌, ◌≢◌, ◌⊎◌, ℕ, ◌+◌, ◌<◌, Bool, true, false, ◌==◌, if◌then◌else◌, List, [], ◌∷◌, ◌++◌, length, map}
use Rattle.std.specs.List.{flat_map, AllByRecursion}
use Rattle.std.specs.Str.Lines.{strip_carriage_return}

-- the bytes of a text before a line feed or before its end, and whether a line feed ends them
pub record Row : Type 0 where
  pub bytes : List ℕ
  pub ended : Bool

abbrev pub row : List ℕ → Bool → Row
row bytes ended = record { bytes = bytes; ended = ended }

-- a byte at the front of the first row
abbrev pub in_front : ℕ → List Row → List Row
in_front byte [] = row (byte ∷ []) false ∷ []
in_front byte (first ∷ rows) = row (byte ∷ first.bytes) first.ended ∷ rows

-- the rows of a text. `AreRowsOf`, below, says what they are
unfoldable pub rows_of : List ℕ → List Row
rows_of [] = []
rows_of (byte ∷ bytes) = if byte == 10 then row [] true ∷ rows_of bytes else in_front byte (rows_of bytes)

-- the bytes of a row with its line feed
abbrev pub with_feed : Bool → List ℕ → List ℕ
with_feed true bytes = bytes ++ 10 ∷ []
with_feed false bytes = bytes

-- the text of rows, one after another
abbrev pub text_of_rows : List Row → List ℕ
text_of_rows rows = flat_map (λ r. with_feed r.ended r.bytes) rows

-- a line feed ends each row but the last, and the last unless it has a byte
abbrev pub AreEnded : List Row → Type 0
AreEnded [] = Unit {0}
AreEnded (last ∷ []) = (last.ended ≡ true) ⊎ (0 < length last.bytes)
AreEnded (first ∷ second ∷ rows) = (first.ended ≡ true) × AreEnded (second ∷ rows)

-- these are the rows of a text: they spell it, a line feed ends each but the last, and none has a line feed among its bytes
pub record AreRowsOf (text : List ℕ) (rows : List Row) : Type 0 where
  pub whole : text_of_rows rows ≡ text
  pub ended : AreEnded rows
  pub apart : AllByRecursion (λ r. AllByRecursion (λ byte. byte ≢ 10) r.bytes) rows

-- how many bytes of the text a row has
abbrev pub size_of : Row → ℕ
size_of r = if r.ended then length r.bytes + 1 else length r.bytes

-- the line of a row: its bytes without the line's end
abbrev pub line_of : Row → List ℕ
line_of r = if r.ended then strip_carriage_return r.bytes else r.bytes

-- the lines of a text
abbrev pub lines : List ℕ → List (List ℕ)
lines text = map line_of (rows_of text)

-- the text has this line at this number, counted from 1
pub record HasLine (text : List ℕ) (number : ℕ) (line : List ℕ) : Type 0 where
  pub before : List (List ℕ)
  pub after : List (List ℕ)
  pub whole : lines text ≡ before ++ line ∷ after
  pub place : number ≡ length before + 1
