-- A line cut into pieces from the left, and the rules that a piece may break (this project's own).
-- Numbers are ASCII codes: 59 is the semicolon, 39 the quote.
use Rattle.std.specs.Prelude.{◌≡◌, ◌⊎◌, ℕ, ◌+◌, ◌<◌, Bool, ◌||◌, ◌==◌, IsTrue, IsFalse, List, [], ◌∷◌, ◌++◌, length, None, ⊤}
use Rattle.std.specs.List.{list_all}
use Rattle.sp_lex.specs.declared.refusal.TextKind.{TextKind}
use Rattle.sp_lex.specs.declared.refusal.TextKind.TheVariants.{BadByte, OpenQuote, BadNumber}
use Rattle.sp_lex.specs.declared.token.TokenKind.TheVariants.{Name, Number, Text}
use Rattle.sp_lex.specs.declared.token.Token.{Token}
use Rattle.sp_lex.specs.declared.pieces.PieceKind.{PieceKind}
use Rattle.sp_lex.specs.declared.pieces.PieceKind.TheVariants as piece
use Rattle.sp_lex.specs.Bytes.{is_blank, is_plain, is_comment_byte}
use Rattle.sp_lex.specs.Numbers.{number_of, at_most, limit_of}
use Rattle.sp_lex.specs.Tokens.{IsLongest, BeginsNoToken}

-- a piece of a line
pub record Cut : Type 0 where
  pub kind : PieceKind
  pub text : List ℕ

-- what a piece of each kind is, where these bytes stand after it: a blank, a semicolon and all after it, the longest token,
-- a quote that begins no token and all after it, or another byte that begins none of these
abbrev pub IsPiece : Bool → PieceKind → List ℕ → List ℕ → Type 0
IsPiece annotation piece.Blank text rest = (byte : ℕ) × (text ≡ byte ∷ []) × IsTrue (is_blank byte)
IsPiece annotation piece.Comment text rest = (comment : List ℕ) × (text ≡ 59 ∷ comment) × (rest ≡ [])
IsPiece annotation (piece.Token kind) text rest = IsLongest annotation kind text rest
IsPiece annotation piece.OpenText text rest =
    (opened : List ℕ) × (text ≡ 39 ∷ opened) × (rest ≡ []) × BeginsNoToken annotation text
IsPiece annotation piece.Stray text rest =
    (byte : ℕ) × (text ≡ byte ∷ []) × IsFalse (is_blank byte || (byte == 59 || byte == 39)) × BeginsNoToken annotation (byte ∷ rest)

-- these are the pieces of bytes
abbrev pub AreCut : Bool → List ℕ → List Cut → Type 0
AreCut annotation bytes [] = bytes ≡ []
AreCut annotation bytes (cut ∷ cuts) =
    (rest : List ℕ) × (bytes ≡ cut.text ++ rest) × IsPiece annotation cut.kind cut.text rest × AreCut annotation rest cuts

-- the token of a piece that begins and ends at these places of the source, if it is one
abbrev pub token_of : PieceKind → ℕ → ℕ → List Token
token_of (piece.Token kind) start end = record { kind = kind; start = start; end = end } ∷ []
token_of piece.Blank start end = []
token_of piece.Comment start end = []
token_of piece.OpenText start end = []
token_of piece.Stray start end = []

-- the tokens of pieces that stand from `at` on in the source
unfoldable pub tokens_from : ℕ → List Cut → List Token
tokens_from at [] = []
tokens_from at (cut ∷ cuts) = token_of cut.kind at (at + length cut.text) ++ tokens_from (at + length cut.text) cuts

-- a piece breaks a rule in this way; a line that is too long is no matter of its pieces
abbrev pub Breaks : Bool → PieceKind → List ℕ → TextKind → Type 0
Breaks annotation piece.Comment text BadByte = IsFalse (list_all is_comment_byte text)
Breaks annotation (piece.Token Name) text BadByte = 31 < length text
Breaks annotation (piece.Token Number) text BadNumber = at_most (limit_of annotation) (number_of text) ≡ None
Breaks annotation (piece.Token Text) text BadByte = IsFalse (list_all is_plain text)
Breaks annotation piece.OpenText text BadByte = IsFalse (list_all is_plain text)
Breaks annotation piece.OpenText text OpenQuote = ⊤
Breaks annotation piece.Stray text BadByte = ⊤
Breaks annotation kind text fault = ⊥

-- one of these pieces does
abbrev pub SomeBreaks : Bool → List Cut → TextKind → Type 0
SomeBreaks annotation [] kind = ⊥
SomeBreaks annotation (cut ∷ cuts) kind = Breaks annotation cut.kind cut.text kind ⊎ SomeBreaks annotation cuts kind
