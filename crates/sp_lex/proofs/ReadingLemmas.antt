-- The lines of a source, one after another.
use Rattle.std.proofs.Common.{◌≡◌, ℕ, ◌+◌, true, false, List, [], ◌∷◌, ◌++◌, length, drop, Result, Ok, Err, refl, sym, ap, ◌∙◌, arith, append_assoc}
use Rattle.std.proofs.lemmas.List.{append-nil}
use Rattle.sp_lex.specs.declared.refusal.TextKind.{TextKind}
use Rattle.sp_lex.specs.declared.token.SourceLine.{SourceLine}
use Rattle.sp_base.specs.declared.line.Line.{Line}
use Rattle.sp_base.specs.declared.refused.Refused.{Refused}
use Rattle.sp_base.specs.declared.refused.Refused.TheVariants as refused
use Rattle.sp_base.specs.Lines.{Row, rows_of, size_of, line_of}
use Rattle.sp_lex.specs.code.Lines.{line_at, is_end_line, Fault, with_first, lines_from, Gives, GivesLine}

-- lines after others
abbrev pub joined : List SourceLine → Result (List SourceLine) Fault → Result (List SourceLine) Fault
joined front (Ok lines) = Ok (front ++ lines)
joined front (Err fault) = Err fault

pub joined-none : (read : Result (List SourceLine) Fault) → joined [] read ≡ read
joined-none (Ok lines) = refl
joined-none (Err fault) = refl

joined-first : (front : List SourceLine) (line : SourceLine) (read : Result (List SourceLine) Fault) → joined front (with_first line read) ≡ joined (front ++ line ∷ []) read
joined-first front line (Ok lines) = ap (λ ls. Ok ls) (sym (append_assoc front (line ∷ []) lines))
joined-first front line (Err fault) = refl

-- a line that is read, and the lines below it
pub joined-more : (front : List SourceLine) (number at size : ℕ) (text line after : List ℕ) (first : Row) (read : SourceLine) → rows_of text ≡ first ∷ rows_of (drop (size_of first) text)
    → line ≡ line_of first → size ≡ size_of first → after ≡ drop size text → line_at at line ≡ Ok read → is_end_line line ≡ false
    → joined (front ++ read ∷ []) (lines_from (number + 1) (at + size) (rows_of after)) ≡ joined front (lines_from number at (rows_of text))
unfolding lines_from
joined-more front number at size text line after first read rows line_is size_is after_is reads goes_on =
    let reads' : line_at at (line_of first) ≡ Ok read = rw (← line_is) reads in
    let goes_on' : is_end_line (line_of first) ≡ false = rw (← line_is) goes_on in
    rw (after_is, size_is) (sym (rw (rows, reads', goes_on') (joined-first front read (lines_from (number + 1) (at + size_of first) (rows_of (drop (size_of first) text))))))

-- the END line is the last
pub joined-last : (front : List SourceLine) (number at : ℕ) (text line : List ℕ) (first : Row) (read : SourceLine) → rows_of text ≡ first ∷ rows_of (drop (size_of first) text)
    → line ≡ line_of first → line_at at line ≡ Ok read → is_end_line line ≡ true → joined front (lines_from number at (rows_of text)) ≡ Ok (front ++ read ∷ [])
unfolding lines_from
joined-last front number at text line first read rows line_is reads last =
    let reads' : line_at at (line_of first) ≡ Ok read = rw (← line_is) reads in
    let last' : is_end_line (line_of first) ≡ true = rw (← line_is) last in
    rw (rows, reads', last') refl

stopped : (front : List SourceLine) (number at : ℕ) (text line : List ℕ) (first : Row) (kind : TextKind) → rows_of text ≡ first ∷ rows_of (drop (size_of first) text)
    → line ≡ line_of first → line_at at line ≡ Err kind → joined front (lines_from number at (rows_of text)) ≡ Err (record { kind = kind; line = number })
unfolding lines_from
stopped front number at text line first kind rows line_is refuses =
    let refuses' : line_at at (line_of first) ≡ Err kind = rw (← line_is) refuses in
    rw (rows, refuses') refl

-- a line that is refused
pub joined-refused : (front : List SourceLine) (number : Line) (at : ℕ) (text line : List ℕ) (first : Row) (refusal : Refused TextKind) (right : Result (List SourceLine) Fault) → rows_of text ≡ first ∷ rows_of (drop (size_of first) text)
    → line ≡ line_of first → GivesLine number (Err refusal) (line_at at line) → joined front (lines_from number.0 at (rows_of text)) ≡ right → Gives (Err refusal) right
joined-refused front number at text line first (refused.At by kind) right rows line_is refuses is =
    sym is ∙ stopped front number.0 at text line first kind rows line_is refuses.1
    ∙ ap (λ (n : Line). Err (record { kind = kind; line = n.0 })) (sym refuses.0)
joined-refused front number at text line first refused.Memory right rows line_is refuses is = tt

-- no more lines
pub joined-all : (front : List SourceLine) (number at : ℕ) (text : List ℕ) → length text ≡ 0 → joined front (lines_from number at (rows_of text)) ≡ Ok front
unfolding lines_from rows_of
joined-all front number at [] none = ap (λ ls. Ok ls) (append-nil front)
joined-all front number at (byte ∷ text) none = absurd (omega arith)
