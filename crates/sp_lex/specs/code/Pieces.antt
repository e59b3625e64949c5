-- How the code cuts a line into pieces.
use Rattle.std.specs.Prelude.{ℕ, zero, suc, ◌+◌, ◌-◌, Bool, true, false, ◌||◌, ◌&&◌, ◌==◌, nat_le, nat_eq, if◌then◌else◌, List, [], ◌∷◌, length, map, fold, take, Option, Some, None, codes, is_some}
use Rattle.std.specs.List.{prefix_len, starts_with, list_all}
use Rattle.std.specs.Option.{option_map}
use Rattle.std.specs.Char.{is_ascii_digit, is_ascii_alphanumeric}
use Rattle.sp_lex.specs.declared.refusal.TextKind.{TextKind}
use Rattle.sp_lex.specs.declared.refusal.TextKind.TheVariants.{BadByte, OpenQuote, BadNumber}
use Rattle.sp_lex.specs.declared.token.TokenKind.TheVariants.{Name, Number, Text, Symbol}
use Rattle.sp_lex.specs.declared.pieces.PieceKind.{PieceKind}
use Rattle.sp_lex.specs.declared.pieces.PieceKind.TheVariants as pieces
use Rattle.sp_lex.specs.declared.pieces.Piece.{Piece}
use Rattle.sp_lex.specs.Bytes.{is_blank, is_name_start, is_name_byte, is_plain, is_comment_byte}
use Rattle.sp_lex.specs.Numbers.{number_of, at_most, limit_of}
use Rattle.sp_lex.specs.Pieces.{Cut}
use Rattle.sp_lex.specs.Refusal.{rank_of}
use Rattle.sp_lex.specs.Tokens.{is_mark}

-- whether bytes begin with a symbol of two bytes
abbrev pub starts_with_pair : List ℕ → Bool
starts_with_pair bytes =
    starts_with nat_eq bytes (codes "<=") || starts_with nat_eq bytes (codes ">=") || starts_with nat_eq bytes (codes "<>")
    || starts_with nat_eq bytes (codes "->") || starts_with nat_eq bytes (codes "..")

-- whether bytes begin with a symbol of one byte
abbrev pub starts_with_mark : Bool → List ℕ → Bool
starts_with_mark annotation [] = false
starts_with_mark annotation (byte ∷ bytes) = is_mark annotation byte

-- how long the longest symbol is that bytes begin with; 0 where there is none
unfoldable pub symbol_len : Bool → List ℕ → ℕ
symbol_len annotation bytes =
    if annotation && starts_with nat_eq bytes (codes "<->") then 3
    else (if annotation && starts_with_pair bytes then 2
    else (if starts_with_mark annotation bytes then 1 else 0))

-- a text that goes on with a quote written twice, and may be closed by the first of the two where it is never closed after
abbrev pub closed_later : Option ℕ → Option ℕ
closed_later None = Some 1
closed_later (Some len) = Some (len + 2)

-- after the quote that opens a text, how many bytes the longest text has, the quote that closes it among them
unfoldable pub text_rest : List ℕ → Option ℕ
text_rest [] = None
text_rest (byte ∷ []) = if byte == 39 then Some 1 else None
text_rest (byte ∷ next ∷ bytes) =
    if byte == 39 then (if next == 39 then closed_later (text_rest bytes) else Some 1)
    else option_map (λ len. len + 1) (text_rest (next ∷ bytes))

abbrev pub piece : PieceKind → ℕ → Piece
piece kind len = record { kind = kind; len = len }

-- the piece that begins with a quote before these bytes
abbrev pub text_piece : Option ℕ → List ℕ → Piece
text_piece (Some rest) bytes = piece (pieces.Token Text) (1 + rest)
text_piece None bytes = piece pieces.OpenText (1 + length bytes)

abbrev pub symbol_piece : ℕ → Piece
symbol_piece zero = piece pieces.Stray 1
symbol_piece (suc len) = piece (pieces.Token Symbol) (suc len)

-- the piece that bytes begin with: 59 is the semicolon, 39 the quote
unfoldable pub piece_at : Bool → List ℕ → Piece
piece_at annotation [] = piece pieces.Blank 0
piece_at annotation (byte ∷ bytes) =
    if is_blank byte then piece pieces.Blank 1
    else (if byte == 59 then piece pieces.Comment (1 + length bytes)
    else (if is_name_start byte then piece (pieces.Token Name) (1 + prefix_len is_name_byte bytes)
    else (if is_ascii_digit byte then piece (pieces.Token Number) (1 + prefix_len is_ascii_alphanumeric bytes)
    else (if byte == 39 then text_piece (text_rest bytes) bytes
    else symbol_piece (symbol_len annotation (byte ∷ bytes))))))

abbrev pub unless : Bool → TextKind → Option TextKind
unless true kind = None
unless false kind = Some kind

-- the first rule that a piece of an annotation or of another line breaks
unfoldable pub fault_of : Bool → PieceKind → List ℕ → Option TextKind
fault_of annotation pieces.Blank text = None
fault_of annotation pieces.Comment text = unless (list_all is_comment_byte text) BadByte
fault_of annotation (pieces.Token Name) text = unless (nat_le (length text) 31) BadByte
fault_of annotation (pieces.Token Number) text = unless (is_some (at_most (limit_of annotation) (number_of text))) BadNumber
fault_of annotation (pieces.Token Text) text = unless (list_all is_plain text) BadByte
fault_of annotation (pieces.Token Symbol) text = None
fault_of annotation pieces.OpenText text = if list_all is_plain text then Some OpenQuote else Some BadByte
fault_of annotation pieces.Stray text = Some BadByte

abbrev pub cut : Piece → List ℕ → Cut
cut piece bytes = record { kind = piece.kind; text = take piece.len bytes }

-- the pieces of bytes; the first `taken` bytes belong to a piece that stands before them
unfoldable pub cuts : Bool → ℕ → List ℕ → List Cut
cuts annotation taken [] = []
cuts annotation (suc taken) (byte ∷ bytes) = cuts annotation taken bytes
cuts annotation zero (byte ∷ bytes) =
    cut (piece_at annotation (byte ∷ bytes)) (byte ∷ bytes)
    ∷ cuts annotation ((piece_at annotation (byte ∷ bytes)).len - 1) bytes

-- the one of two faults of a line that counts
abbrev pub first_fault : Option TextKind → Option TextKind → Option TextKind
first_fault None other = other
first_fault (Some fault) None = Some fault
first_fault (Some fault) (Some other) = if nat_le (rank_of fault) (rank_of other) then Some fault else Some other

-- the first of the faults of pieces, in the order of the kinds
abbrev pub fault_in : Bool → Option TextKind → List Cut → Option TextKind
fault_in annotation before cs = fold first_fault before (map (λ c. fault_of annotation c.kind c.text) cs)
