-- How the code reads lines, one after another.
use Rattle.std.specs.Prelude.{◌≡◌, ℕ, ◌+◌, Bool, true, false, nat_lt, nat_eq, if◌then◌else◌, List, [], ◌∷◌, length, take, drop, Option, Some, None, Result, Ok, Err, codes, ⊤}
use Rattle.std.specs.Cmp.Lexicographic.{pointwise}
use Rattle.std.specs.List.{prefix_len, starts_with}
use Rattle.sp_base.specs.declared.line.Line.{Line}
use Rattle.sp_base.specs.declared.refused.Refused.{Refused}
use Rattle.sp_base.specs.declared.refused.Refused.TheVariants as refused
use Rattle.sp_lex.specs.declared.refusal.TextKind.{TextKind}
use Rattle.sp_lex.specs.declared.refusal.TextKind.TheVariants.{LongLine}
use Rattle.sp_lex.specs.declared.token.LineKind.{LineKind}
use Rattle.sp_lex.specs.declared.token.LineKind.TheVariants.{Empty, Statement, Annotation}
use Rattle.sp_lex.specs.declared.token.Token.{Token}
use Rattle.sp_lex.specs.declared.token.SourceLine.{SourceLine}
use Rattle.sp_lex.specs.Bytes.{is_blank, is_name_byte}
use Rattle.sp_lex.specs.Names.{folded}
use Rattle.sp_lex.specs.Pieces.{Cut, tokens_from}
use Rattle.sp_base.specs.Lines.{Row, rows_of, line_of, size_of}
use Rattle.sp_lex.specs.code.Pieces.{cuts, fault_in}

-- the line of these tokens, or what is wrong with it
abbrev pub finished : LineKind → List Token → Option TextKind → Result SourceLine TextKind
finished kind tokens None = Ok (record { kind = kind; tokens = tokens })
finished kind tokens (Some fault) = Err fault

abbrev pub kind_by : List Token → LineKind
kind_by [] = Empty
kind_by (token ∷ tokens) = Statement

-- the line of pieces that stand from `at` on in the source
abbrev pub annotation_of : ℕ → List Cut → Result SourceLine TextKind
annotation_of at cs = finished Annotation (tokens_from at cs) (fault_in true None cs)

abbrev pub statement_of : ℕ → List Cut → Result SourceLine TextKind
statement_of at cs = finished (kind_by (tokens_from at cs)) (tokens_from at cs) (fault_in false None cs)

-- what bytes are after the blanks that they begin with
abbrev pub after_blanks : List ℕ → List ℕ
after_blanks bytes = drop (prefix_len is_blank bytes) bytes

-- the line of these bytes, which stand from `at` on, or what is wrong with it
unfoldable pub line_at : ℕ → List ℕ → Result SourceLine TextKind
line_at at bytes =
    if nat_lt 4096 (length bytes) then Err LongLine
    else (if starts_with nat_eq (after_blanks bytes) (codes ";#")
    then annotation_of (at + prefix_len is_blank bytes + 2) (cuts true 0 (drop 2 (after_blanks bytes)))
    else statement_of at (cuts false 0 bytes))

abbrev pub is_end_word : List ℕ → Bool
is_end_word word = pointwise nat_eq (folded word) (codes "END")

-- whether a line is an END line: its first word is END
abbrev pub is_end_line : List ℕ → Bool
is_end_line bytes = is_end_word (take (prefix_len is_name_byte (after_blanks bytes)) (after_blanks bytes))

-- a fault with the number of its line
pub record Fault : Type 0 where
  pub kind : TextKind
  pub line : ℕ

abbrev pub with_first : SourceLine → Result (List SourceLine) Fault → Result (List SourceLine) Fault
with_first first (Ok lines) = Ok (first ∷ lines)
with_first first (Err fault) = Err fault

-- a line, and the lines below it unless it is an END line
abbrev pub then_lines : ℕ → Bool → Result SourceLine TextKind → Result (List SourceLine) Fault → Result (List SourceLine) Fault
then_lines number last (Err kind) below = Err (record { kind = kind; line = number })
then_lines number true (Ok line) below = Ok (line ∷ [])
then_lines number false (Ok line) below = with_first line below

-- the lines of rows, the first of which has this number and stands from `at` on in the source
unfoldable pub lines_from : ℕ → ℕ → List Row → Result (List SourceLine) Fault
lines_from number at [] = Ok []
lines_from number at (first ∷ rows) =
    then_lines number (is_end_line (line_of first)) (line_at at (line_of first)) (lines_from (number + 1) (at + size_of first) rows)

-- the lines of a source down to its END line, or the first fault
abbrev pub lines_of : List ℕ → Result (List SourceLine) Fault
lines_of source = lines_from 1 0 (rows_of source)

-- an answer is the right one, unless memory ran out
abbrev pub Gives : Result (List SourceLine) (Refused TextKind) → Result (List SourceLine) Fault → Type 0
Gives (Ok lines) right = right ≡ Ok lines
Gives (Err (refused.At line kind)) right = right ≡ Err (record { kind = kind; line = line.0 })
Gives (Err refused.Memory) right = ⊤

-- the same of the line with this number
abbrev pub GivesLine : Line → Result SourceLine (Refused TextKind) → Result SourceLine TextKind → Type 0
GivesLine number (Ok read) right = right ≡ Ok read
GivesLine number (Err (refused.At line kind)) right = (line ≡ number) × (right ≡ Err kind)
GivesLine number (Err refused.Memory) right = ⊤
