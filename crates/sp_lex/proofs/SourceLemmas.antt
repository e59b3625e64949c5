-- A source: its lines or its lowest fault, and never both.
use Rattle.std.proofs.Common.{◌≡◌, ℕ, suc, ◌+◌, ◌≤◌, Bool, true, false, List, [], ◌∷◌, length, Result, Ok, Err, refl, sym, ap, subst, ◌∙◌, ◌⊎◌, inl, inr, arith}
use Rattle.std.specs.Prelude.{◌==◌, IsErrAnd}
use Rattle.std.proofs.lemmas.Bool.{cond_both}
use Rattle.sp_base.specs.declared.refused.Refused.{Refused}
use Rattle.sp_base.specs.declared.refused.Refused.TheVariants as refused
use Rattle.sp_base.specs.Lines.{Row, row, rows_of, in_front, line_of, size_of}
use Rattle.sp_base.specs.Refused.{Answers, IsComplete}
use Rattle.sp_base.proofs.RefusedLemmas.{complete}
use Rattle.sp_lex.specs.declared.refusal.TextKind.{TextKind}
use Rattle.sp_lex.specs.declared.token.SourceLine.{SourceLine}
use Rattle.sp_lex.specs.Reading.{IsFaultOf, IsSound, IsEndLine, IsLine, AreLinesFrom, AreLines, IsFaultFrom, IsFaultAt}
use Rattle.sp_lex.specs.code.Lines.{line_at, is_end_line, Fault, with_first, then_lines, lines_from, lines_of, Gives}
use Rattle.sp_lex.proofs.LineLemmas.{IsRead, line_read, one_line, one_fault_kind, end_line, no_end}

-- ---- What the code finds

-- rows are these lines, or have this fault
abbrev Means : ℕ → ℕ → List Row → Result (List SourceLine) Fault → Type 0
Means number at rows (Ok lines) = AreLinesFrom at rows lines
Means number at rows (Err fault) = IsFaultFrom number rows fault.line fault.kind

first_means : (number at : ℕ) (first : Row) (rows : List Row) (line : SourceLine) (below : Result (List SourceLine) Fault) → IsLine at (line_of first) line → ¬ IsEndLine (line_of first)
    → Means (number + 1) (at + size_of first) rows below → Means number at (first ∷ rows) (with_first line below)
first_means number at first rows line (Ok lines) is goes_on h = (is, inr (goes_on, h))
first_means number at first rows line (Err fault) is goes_on h = inr (is.sound, goes_on, h)

then_means : (number at : ℕ) (first : Row) (rows : List Row) (last : Bool) (read : Result SourceLine TextKind) (below : Result (List SourceLine) Fault) → is_end_line (line_of first) ≡ last
    → IsRead at (line_of first) read → Means (number + 1) (at + size_of first) rows below → Means number at (first ∷ rows) (then_lines number last read below)
then_means number at first rows last (Err kind) below ends is h = inl (refl, is)
then_means number at first rows true (Ok line) below ends is h = (is, inl (end_line (line_of first) ends, refl))
then_means number at first rows false (Ok line) below ends is h = first_means number at first rows line below is (no_end (line_of first) ends) h

rows_mean : (number at : ℕ) (rows : List Row) → Means number at rows (lines_from number at rows)
unfolding lines_from
rows_mean number at [] = tt
rows_mean number at (first ∷ rows) =
    then_means number at first rows (is_end_line (line_of first)) (line_at at (line_of first)) (lines_from (number + 1) (at + size_of first) rows) refl
    (line_read at (line_of first)) (rows_mean (number + 1) (at + size_of first) rows)

abbrev MeansSource : List ℕ → Result (List SourceLine) Fault → Type 0
MeansSource source (Ok lines) = AreLines source lines
MeansSource source (Err fault) = IsFaultAt source fault.line fault.kind

of_source : (source : List ℕ) (r : Result (List SourceLine) Fault) → Means 1 0 (rows_of source) r → MeansSource source r
of_source source (Ok lines) h = record { all = h }
of_source source (Err fault) h = record { lowest = h }

source_means : (source : List ℕ) → MeansSource source (lines_of source)
source_means source = of_source source (lines_of source) (rows_mean 1 0 (rows_of source))

-- so an answer of the code is right
pub answers : (source : List ℕ) (result : Result (List SourceLine) (Refused TextKind)) → Gives result (lines_of source) → Answers (AreLines source) (IsFaultAt source) result
answers source (Ok lines) h = subst (MeansSource source) h (source_means source)
answers source (Err (refused.At line kind)) h = subst (MeansSource source) h (source_means source)
answers source (Err refused.Memory) h = tt

-- an error that is handed on
pub handed_on : (source : List ℕ) (result : Result (List SourceLine) (Refused TextKind)) (e : Refused TextKind) → IsErrAnd result (λ f. f ≡ e)
    → Answers (AreLines source) (IsFaultAt source) (Err e) → Answers (AreLines source) (IsFaultAt source) result
handed_on source (Ok lines) e h right = absurd h
handed_on source (Err f) e h right = subst (λ g. Answers (AreLines source) (IsFaultAt source) (Err g)) (sym h) right

-- a source has lines, or a fault
pub lines_or_fault : (source : List ℕ) → ((lines : List SourceLine) × AreLines source lines) ⊎ ((line : ℕ) × (kind : TextKind) × IsFaultAt source line kind)
lines_or_fault source = by (lines_of source) (source_means source)
  where
    by : (r : Result (List SourceLine) Fault) → MeansSource source r → ((lines : List SourceLine) × AreLines source lines) ⊎ ((line : ℕ) × (kind : TextKind) × IsFaultAt source line kind)
    by (Ok lines) h = inl (lines, h)
    by (Err fault) h = inr (fault.line, fault.kind, h)

-- ---- There is nothing else

-- the lines below a row, unless it is an END line
abbrev Below : ℕ → Row → List Row → List SourceLine → Type 0
Below at first rows lines = (IsEndLine (line_of first) × (lines ≡ [])) ⊎ (¬ IsEndLine (line_of first) × AreLinesFrom (at + size_of first) rows lines)

one_below : (at : ℕ) (first : Row) (rows : List Row) (one other : List SourceLine)
    → (AreLinesFrom (at + size_of first) rows one → AreLinesFrom (at + size_of first) rows other → one ≡ other) → Below at first rows one → Below at first rows other → one ≡ other
one_below at first rows one other same (inl a) (inl b) = a.1 ∙ sym b.1
one_below at first rows one other same (inl a) (inr b) = absurd (b.0 a.0)
one_below at first rows one other same (inr a) (inl b) = absurd (a.0 b.0)
one_below at first rows one other same (inr a) (inr b) = same a.1 b.1

one_list : (at : ℕ) (rows : List Row) (one other : List SourceLine) → AreLinesFrom at rows one → AreLinesFrom at rows other → one ≡ other
one_list at [] [] [] h g = refl
one_list at [] [] (line ∷ lines) h g = absurd g
one_list at [] (line ∷ lines) other h g = absurd h
one_list at (first ∷ rows) [] other h g = absurd h
one_list at (first ∷ rows) (line ∷ lines) [] h g = absurd g
one_list at (first ∷ rows) (line ∷ lines) (there ∷ others) h g =
    ap (λ l. l ∷ lines) (one_line at (line_of first) line there h.0 g.0)
    ∙ ap (λ ls. there ∷ ls) (one_below at first rows lines others (one_list (at + size_of first) rows lines others) h.1 g.1)

-- a source has one list of lines
pub one_reading : (source : List ℕ) (one other : List SourceLine) → AreLines source one → AreLines source other → one ≡ other
one_reading source one other h g = one_list 0 (rows_of source) one other h.all g.all

apart_from : (number at : ℕ) (rows : List Row) (lines : List SourceLine) (line : ℕ) (kind : TextKind) → AreLinesFrom at rows lines → IsFaultFrom number rows line kind → ⊥
apart_from number at [] lines line kind h g = g
apart_from number at (first ∷ rows) [] line kind h g = h
apart_from number at (first ∷ rows) (read ∷ lines) line kind h (inl g) = h.0.sound kind g.1.stands
apart_from number at (first ∷ rows) (read ∷ lines) line kind h (inr g) =
    elim h.1 [
      | inl last ↦ g.1 last.0
      | inr more ↦ apart_from (number + 1) (at + size_of first) rows lines line kind more.1 g.2
    ]

-- a source that has lines has no fault
pub lines_exclude_fault : (source : List ℕ) (lines : List SourceLine) (line : ℕ) (kind : TextKind) → AreLines source lines → IsFaultAt source line kind → ⊥
lines_exclude_fault source lines line kind h g = apart_from 1 0 (rows_of source) lines line kind h.all g.lowest

fault_from : (number : ℕ) (rows : List Row) (line there : ℕ) (kind other : TextKind) → IsFaultFrom number rows line kind → IsFaultFrom number rows there other → (line ≡ there) × (kind ≡ other)
fault_from number [] line there kind other h g = absurd h
fault_from number (first ∷ rows) line there kind other (inl h) (inl g) = (h.0 ∙ sym g.0, one_fault_kind (line_of first) kind other h.1 g.1)
fault_from number (first ∷ rows) line there kind other (inl h) (inr g) = absurd (g.0 kind h.1.stands)
fault_from number (first ∷ rows) line there kind other (inr h) (inl g) = absurd (h.0 other g.1.stands)
fault_from number (first ∷ rows) line there kind other (inr h) (inr g) = fault_from (number + 1) rows line there kind other h.2 g.2

-- a source has one fault
pub one_fault : (source : List ℕ) (line there : ℕ) (kind other : TextKind) → IsFaultAt source line kind → IsFaultAt source there other → (line ≡ there) × (kind ≡ other)
one_fault source line there kind other h g = fault_from 1 (rows_of source) line there kind other h.lowest g.lowest

-- so an answer that is right is complete
pub answers_complete : (source : List ℕ) (result : Result (List SourceLine) (Refused TextKind)) → Answers (AreLines source) (IsFaultAt source) result → IsComplete (AreLines source) (IsFaultAt source) result
answers_complete source result h =
    complete (AreLines source) (IsFaultAt source) (one_reading source) (one_fault source) (lines_exclude_fault source) result h

-- ---- How many there are

in_front_short : (byte n : ℕ) (rows : List Row) → length rows ≤ n → length (in_front byte rows) ≤ suc n
in_front_short byte n [] le = omega arith
in_front_short byte n (first ∷ rows) le = omega arith

-- a row has a byte at least
rows_short : (text : List ℕ) → length (rows_of text) ≤ length text
unfolding rows_of
rows_short [] = omega arith
rows_short (byte ∷ text) =
    let le = rows_short text in
    cond_both (byte == 10) (row [] true ∷ rows_of text) (in_front byte (rows_of text)) (λ rows. length rows ≤ suc (length text))
    (λ _. omega (arith, le)) (λ _. in_front_short byte (length text) (rows_of text) le)

list_short : (at : ℕ) (rows : List Row) (lines : List SourceLine) → AreLinesFrom at rows lines → length lines ≤ length rows
list_short at [] [] h = omega arith
list_short at [] (line ∷ lines) h = absurd h
list_short at (first ∷ rows) [] h = omega arith
list_short at (first ∷ rows) (line ∷ lines) h =
    elim h.1 [
      | inl last ↦ omega (arith, ap length last.1)
      | inr more ↦ omega (arith, list_short (at + size_of first) rows lines more.1)
    ]

-- a source has no more lines than bytes
pub length-lines : (source : List ℕ) (lines : List SourceLine) → AreLines source lines → length lines ≤ length source
length-lines source lines h = omega (arith, list_short 0 (rows_of source) lines h.all, rows_short source)

-- ---- What computes

pub lines_found : (source : List ℕ) (lines : List SourceLine) → lines_of source ≡ Ok lines → AreLines source lines
lines_found source lines e = subst (MeansSource source) e (source_means source)

pub fault_found : (source : List ℕ) (line : ℕ) (kind : TextKind) → lines_of source ≡ Err (record { kind = kind; line = line }) → IsFaultAt source line kind
fault_found source line kind e = subst (MeansSource source) e (source_means source)

pub sound_found : (at : ℕ) (bytes : List ℕ) (line : SourceLine) → line_at at bytes ≡ Ok line → IsSound bytes
sound_found at bytes line e = let read : IsRead at bytes (Ok line) = subst (IsRead at bytes) e (line_read at bytes) in read.sound

pub kind_found : (at : ℕ) (bytes : List ℕ) (kind : TextKind) → line_at at bytes ≡ Err kind → IsFaultOf bytes kind
kind_found at bytes kind e = subst (IsRead at bytes) e (line_read at bytes)
