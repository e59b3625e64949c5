-- Rows and lines of texts.
use Rattle.std.proofs.Common.{◌≡◌, ◌≢◌, ◌⊎◌, ℕ, zero, suc, ◌-◌, ◌<◌, Bool, true, false, cond, eqb, List, [], ◌∷◌, ◌++◌, map, length, get_or, take, drop, Some, inl, inr, refl, sym, ap, ◌∙◌, arith, append_assoc, length-append}
use Rattle.std.specs.Prelude.{slice_get}
use Rattle.std.specs.List.{AllByRecursion, slice_split, onto_first}
use Rattle.std.specs.Str.Lines as text
use Rattle.std.specs.Str.Lines.{lines_of_parts, strip_carriage_return}
use Rattle.std.proofs.lemmas.Bool.{ne_eqb, eq-eqb, eqb-true, eqb-false, cond_both}
use Rattle.std.proofs.lemmas.List.{append-nil}
use Rattle.std.proofs.lemmas.List.Splits.{length-slice_split}
use Rattle.sp_base.specs.Lines.{Row, row, in_front, rows_of, with_feed, text_of_rows, AreEnded, AreRowsOf, size_of, line_of, lines, HasLine}

-- ---- The first row

pub rows_of-none : (text : List ℕ) → text ≡ [] → rows_of text ≡ []
unfolding rows_of
rows_of-none text none = ap rows_of none

-- a text without a line feed is one row
pub rows_of-unended : (text : List ℕ) → 0 < length text → ((k : ℕ) → k < length text → get_or text k 0 ≢ 10) → rows_of text ≡ row text false ∷ []
unfolding rows_of
rows_of-unended [] some none = absurd (omega arith)
rows_of-unended (byte ∷ []) some none = rw (ne_eqb byte 10 (none 0 (omega arith))) refl
rows_of-unended (byte ∷ next ∷ text) some none =
    rw (ne_eqb byte 10 (none 0 (omega arith)))
    (ap (in_front byte) (rows_of-unended (next ∷ text) (omega arith) (λ k lt. none (suc k) (omega arith))))

-- up to the first line feed a text is a row
pub rows_of-ended : (i : ℕ) (text : List ℕ) → i < length text → ((k : ℕ) → k < i → get_or text k 0 ≢ 10) → get_or text i 0 ≡ 10 → rows_of text ≡ row (take i text) true ∷ rows_of (drop (suc i) text)
unfolding rows_of
rows_of-ended i [] lt none is = absurd (omega arith)
rows_of-ended zero (byte ∷ text) lt none is = rw (eq-eqb byte 10 is) refl
rows_of-ended (suc i) (byte ∷ text) lt none is =
    rw (ne_eqb byte 10 (none 0 (omega arith)))
    (ap (in_front byte) (rows_of-ended i text (omega arith) (λ k less. none (suc k) (omega arith)) is))

-- ---- The rows are those that `AreRowsOf` describes

feed_front : (ended : Bool) (byte : ℕ) (bytes : List ℕ) → with_feed ended (byte ∷ bytes) ≡ byte ∷ with_feed ended bytes
feed_front true byte bytes = refl
feed_front false byte bytes = refl

text_of_front : (byte : ℕ) (rows : List Row) → text_of_rows (in_front byte rows) ≡ byte ∷ text_of_rows rows
text_of_front byte [] = refl
text_of_front byte (first ∷ rows) = ap (λ front. front ++ text_of_rows rows) (feed_front first.ended byte first.bytes)

-- rows spell their text
pub rows_whole : (source : List ℕ) → text_of_rows (rows_of source) ≡ source
unfolding rows_of
rows_whole [] = refl
rows_whole (byte ∷ bytes) =
    cond_both (eqb byte 10) (row [] true ∷ rows_of bytes) (in_front byte (rows_of bytes)) (λ rows. text_of_rows rows ≡ byte ∷ bytes)
    (λ e. ap (λ rest. 10 ∷ rest) (rows_whole bytes) ∙ ap (λ b. b ∷ bytes) (sym (eqb-true byte 10 e)))
    (λ _. text_of_front byte (rows_of bytes) ∙ ap (λ rest. byte ∷ rest) (rows_whole bytes))

ended_cons : (rows : List Row) → AreEnded rows → AreEnded (row [] true ∷ rows)
ended_cons [] h = inl refl
ended_cons (second ∷ rows) h = (refl, h)

ended_front : (byte : ℕ) (rows : List Row) → AreEnded rows → AreEnded (in_front byte rows)
ended_front byte [] h = inr (omega arith)
ended_front byte (last ∷ []) h = inr (omega arith)
ended_front byte (first ∷ second ∷ rows) h = (h.0, h.1)

rows_ended : (source : List ℕ) → AreEnded (rows_of source)
unfolding rows_of
rows_ended [] = tt
rows_ended (byte ∷ bytes) =
    cond_both (eqb byte 10) (row [] true ∷ rows_of bytes) (in_front byte (rows_of bytes)) AreEnded
    (λ _. ended_cons (rows_of bytes) (rows_ended bytes)) (λ _. ended_front byte (rows_of bytes) (rows_ended bytes))

-- no byte is a line feed
abbrev NoFeed : List ℕ → Type 0
NoFeed = AllByRecursion (λ byte. byte ≢ 10)

abbrev AreApart : List Row → Type 0
AreApart = AllByRecursion (λ r. NoFeed r.bytes)

apart_front : (byte : ℕ) (rows : List Row) → byte ≢ 10 → AreApart rows → AreApart (in_front byte rows)
apart_front byte [] ne h = ((ne, tt), tt)
apart_front byte (first ∷ rows) ne h = ((ne, h.0), h.1)

rows_apart : (source : List ℕ) → AreApart (rows_of source)
unfolding rows_of
rows_apart [] = tt
rows_apart (byte ∷ bytes) =
    cond_both (eqb byte 10) (row [] true ∷ rows_of bytes) (in_front byte (rows_of bytes)) AreApart
    (λ _. (tt, rows_apart bytes)) (λ other. apart_front byte (rows_of bytes) (eqb-false byte 10 other) (rows_apart bytes))

pub rows_made : (text : List ℕ) → AreRowsOf text (rows_of text)
rows_made text = record { whole = rows_whole text; ended = rows_ended text; apart = rows_apart text }

-- a row with its line feed, and what stands after it
pub rows_of-feed : (bytes rest : List ℕ) → NoFeed bytes → rows_of (bytes ++ 10 ∷ rest) ≡ row bytes true ∷ rows_of rest
unfolding rows_of
rows_of-feed [] rest none = refl
rows_of-feed (byte ∷ bytes) rest none = rw (ne_eqb byte 10 none.0) (ap (in_front byte) (rows_of-feed bytes rest none.1))

pub rows_of-last : (bytes : List ℕ) → 0 < length bytes → NoFeed bytes → rows_of bytes ≡ row bytes false ∷ []
unfolding rows_of
rows_of-last [] some none = absurd (omega arith)
rows_of-last (byte ∷ []) some none = rw (ne_eqb byte 10 none.0) refl
rows_of-last (byte ∷ next ∷ bytes) some none =
    rw (ne_eqb byte 10 none.0) (ap (in_front byte) (rows_of-last (next ∷ bytes) (omega arith) none.1))

last_row : (bytes : List ℕ) (ended : Bool) → (ended ≡ true) ⊎ (0 < length bytes) → NoFeed bytes → rows_of (with_feed ended bytes ++ []) ≡ row bytes ended ∷ []
unfolding rows_of
last_row bytes true h none = ap rows_of (append-nil (bytes ++ 10 ∷ [])) ∙ rows_of-feed bytes [] none
last_row bytes false (inl h) none = absurd cc
last_row bytes false (inr some) none = ap rows_of (append-nil bytes) ∙ rows_of-last bytes some none

first_row_of : (bytes rest : List ℕ) (ended : Bool) → ended ≡ true → NoFeed bytes → rows_of (with_feed ended bytes ++ rest) ≡ row bytes ended ∷ rows_of rest
first_row_of bytes rest true h none = ap rows_of (append_assoc bytes (10 ∷ []) rest) ∙ rows_of-feed bytes rest none
first_row_of bytes rest false h none = absurd cc

rows_back : (rows : List Row) → AreEnded rows → AreApart rows → rows_of (text_of_rows rows) ≡ rows
rows_back [] h none = rows_of-none [] refl
rows_back (last ∷ []) h none = last_row last.bytes last.ended h none.0
rows_back (first ∷ second ∷ rows) h none =
    first_row_of first.bytes (text_of_rows (second ∷ rows)) first.ended h.0 none.0 ∙ ap (λ rs. first ∷ rs) (rows_back (second ∷ rows) h.1 none.1)

-- no other rows are those of a text
pub rows_only : (text : List ℕ) (rows : List Row) → AreRowsOf text rows → rows ≡ rows_of text
rows_only text rows h = sym (rows_back rows h.ended h.apart) ∙ ap rows_of h.whole

pub length-with_feed : (bytes : List ℕ) (ended : Bool) → length (with_feed ended bytes) ≡ size_of (row bytes ended)
length-with_feed bytes true = length-append bytes (10 ∷ [])
length-with_feed bytes false = refl

-- ---- The lines are those of std's `lines`

rows_of_parts : List (List ℕ) → List Row
rows_of_parts [] = []
rows_of_parts (x ∷ []) = cond (eqb (length x) 0) [] (row x false ∷ [])
rows_of_parts (x ∷ y ∷ more) = row x true ∷ rows_of_parts (y ∷ more)

abbrev is_feed : ℕ → Bool
is_feed byte = eqb byte 10

some_more : (x : List ℕ) → eqb (suc (length x)) 0 ≡ false
some_more x = ne_eqb (suc (length x)) 0 (λ e. absurd (omega arith))

parts_front : (byte : ℕ) (parts : List (List ℕ)) → rows_of_parts (onto_first byte parts) ≡ in_front byte (rows_of_parts parts)
unfolding rows_of_parts
parts_front byte [] = rw (some_more []) refl
parts_front byte ([] ∷ []) = rw (some_more []) refl
parts_front byte ((x ∷ xs) ∷ []) = rw (some_more (x ∷ xs), some_more xs) refl
parts_front byte (x ∷ y ∷ more) = refl

parts_feed : (parts : List (List ℕ)) (text : List ℕ) → parts ≡ slice_split is_feed text → rows_of_parts ([] ∷ parts) ≡ row [] true ∷ rows_of_parts parts
unfolding rows_of_parts
parts_feed [] text e = absurd (omega (arith, ap length e, length-slice_split is_feed text))
parts_feed (part ∷ parts) text e = refl

rows_by_parts : (text : List ℕ) → rows_of text ≡ rows_of_parts (slice_split is_feed text)
unfolding rows_of rows_of_parts
rows_by_parts [] = refl
rows_by_parts (byte ∷ text) = elim (eqb byte 10) as (λ b. cond b (row [] true ∷ rows_of text) (in_front byte (rows_of text)) ≡ rows_of_parts (cond b ([] ∷ slice_split is_feed text) (onto_first byte (slice_split is_feed text)))) [
  | true ↦ ap (λ rows. row [] true ∷ rows) (rows_by_parts text) ∙ sym (parts_feed (slice_split is_feed text) text refl)
  | false ↦ ap (in_front byte) (rows_by_parts text) ∙ sym (parts_front byte (slice_split is_feed text))
]

lines_by_parts : (parts : List (List ℕ)) → map line_of (rows_of_parts parts) ≡ lines_of_parts parts
unfolding rows_of_parts
lines_by_parts [] = refl
lines_by_parts ([] ∷ []) = refl
lines_by_parts ((byte ∷ bytes) ∷ []) = rw (some_more bytes) refl
lines_by_parts (x ∷ y ∷ more) = ap (λ ls. strip_carriage_return x ∷ ls) (lines_by_parts (y ∷ more))

-- the lines are those that Rust's `str::lines` gives
pub lines_are_text_lines : (source : List ℕ) → lines source ≡ text.lines source
lines_are_text_lines source = ap (map line_of) (rows_by_parts source) ∙ lines_by_parts (slice_split is_feed source)

-- ---- Numbers of lines

line_there : (before after : List (List ℕ)) (line : List ℕ) → slice_get (before ++ line ∷ after) (length before) ≡ Some line
line_there [] after line = refl
line_there (first ∷ before) after line = line_there before after line

pub line_at_number : (text : List ℕ) (number : ℕ) (line : List ℕ) → HasLine text number line → slice_get (lines text) (number - 1) ≡ Some line
line_at_number text number line h =
    let n : number - 1 ≡ length h.before = omega (arith, h.place) in
    ap (slice_get (lines text)) n ∙ ap (λ ls. slice_get ls (length h.before)) h.whole ∙ line_there h.before h.after line

pub first_number : (text line : List ℕ) (more : List (List ℕ)) → lines text ≡ line ∷ more → HasLine text 1 line
first_number text line more e = record { before = []; after = more; whole = e; place = refl }

pub no_line_0 : (text line : List ℕ) → HasLine text 0 line → ⊥
no_line_0 text line h = absurd (omega (arith, h.place))
