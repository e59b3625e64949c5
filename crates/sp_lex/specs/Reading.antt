-- The lines of a source with their tokens, and the lowest line that breaks a rule (8080 Assembly Language Programming Manual,
-- "Assembly language instruction format"; annotation lines, the END line as the last, and the limit of 4,096 bytes are this
-- project's own).
use Rattle.std.specs.Prelude.{◌≡◌, ◌⊎◌, ℕ, ◌+◌, ◌<◌, ◌≤◌, Bool, true, false, IsTrue, List, [], ◌∷◌, ◌++◌, length, codes, ⊤}
use Rattle.std.specs.List.{list_all, slice_range, AllByRecursion}
use Rattle.sp_lex.specs.declared.refusal.TextKind.{TextKind}
use Rattle.sp_lex.specs.declared.refusal.TextKind.TheVariants.{LongLine}
use Rattle.sp_lex.specs.declared.token.LineKind.{LineKind}
use Rattle.sp_lex.specs.declared.token.LineKind.TheVariants.{Empty, Statement, Annotation}
use Rattle.sp_lex.specs.declared.token.TokenKind.TheVariants.{Name}
use Rattle.sp_lex.specs.declared.token.Token.{Token}
use Rattle.sp_lex.specs.declared.token.SourceLine.{SourceLine}
use Rattle.sp_lex.specs.Bytes.{is_blank}
use Rattle.sp_lex.specs.Names.{folded}
use Rattle.sp_lex.specs.Pieces.{Cut, AreCut, tokens_from, SomeBreaks}
use Rattle.sp_lex.specs.Refusal.{rank_of}
use Rattle.sp_base.specs.Lines.{Row, rows_of, line_of, size_of}
use Rattle.sp_lex.specs.Tokens.{IsToken, IsLongest}

-- ---- One line

-- blanks and `;#`, with which an annotation line begins
abbrev pub IsMarker : List ℕ → Type 0
IsMarker front = (blanks : List ℕ) × (front ≡ blanks ++ codes ";#") × IsTrue (list_all is_blank blanks)

abbrev pub IsAnnotation : List ℕ → Type 0
IsAnnotation line = (front body : List ℕ) × IsMarker front × (line ≡ front ++ body)

-- a line is divided into what stands before its tokens, and the bytes that are cut into pieces
abbrev pub IsDivided : Bool → List ℕ → List ℕ → List ℕ → Type 0
IsDivided true line front body = IsMarker front × (line ≡ front ++ body)
IsDivided false line front body = (front ≡ []) × (line ≡ body) × ¬ IsAnnotation line

-- these are the pieces of a line, after this front
pub record ArePiecesOf (annotation : Bool) (line front : List ℕ) (cuts : List Cut) : Type 0 where
  pub body : List ℕ
  pub divided : IsDivided annotation line front body
  pub cut : AreCut annotation body cuts

pub record HasBrokenPiece (line : List ℕ) (kind : TextKind) : Type 0 where
  pub annotation : Bool
  pub front : List ℕ
  pub cuts : List Cut
  pub pieces : ArePiecesOf annotation line front cuts
  pub broken : SomeBreaks annotation cuts kind

-- a line breaks a rule in this way
abbrev pub HasFault : List ℕ → TextKind → Type 0
HasFault line LongLine = 4096 < length line
HasFault line kind = HasBrokenPiece line kind

-- a line breaks a rule in this way, and in none that comes before it in the order of kinds
pub record IsFaultOf (line : List ℕ) (kind : TextKind) : Type 0 where
  pub stands : HasFault line kind
  pub first : (other : TextKind) → rank_of other < rank_of kind → ¬ HasFault line other

-- a line breaks no rule
abbrev pub IsSound : List ℕ → Type 0
IsSound line = (kind : TextKind) → ¬ HasFault line kind

-- a line is an END line: its first token is the word END
pub record IsEndLine (line : List ℕ) : Type 0 where
  pub blanks : List ℕ
  pub word : List ℕ
  pub rest : List ℕ
  pub whole : line ≡ blanks ++ (word ++ rest)
  pub blank : IsTrue (list_all is_blank blanks)
  pub first : IsLongest false Name word rest
  pub says : folded word ≡ codes "END"

abbrev pub is_annotation : LineKind → Bool
is_annotation Annotation = true
is_annotation Statement = false
is_annotation Empty = false

-- a line without tokens is empty, unless it is an annotation
abbrev pub HasKind : LineKind → List Token → Type 0
HasKind Annotation tokens = ⊤
HasKind Statement tokens = 0 < length tokens
HasKind Empty tokens = tokens ≡ []

-- these bytes, which stand from `at` on in the source, are this line
pub record IsLine (at : ℕ) (bytes : List ℕ) (line : SourceLine) : Type 0 where
  pub sound : IsSound bytes
  pub front : List ℕ
  pub cuts : List Cut
  pub pieces : ArePiecesOf (is_annotation line.kind) bytes front cuts
  pub tokens : line.tokens ≡ tokens_from (at + length front) cuts
  pub kind : HasKind line.kind line.tokens

-- ---- A source

-- these rows, which stand from `at` on in the source, are these lines, down to the END line or the last
abbrev pub AreLinesFrom : ℕ → List Row → List SourceLine → Type 0
AreLinesFrom at [] [] = ⊤
AreLinesFrom at [] (line ∷ lines) = ⊥
AreLinesFrom at (row ∷ rows) [] = ⊥
AreLinesFrom at (row ∷ rows) (line ∷ lines) =
    IsLine at (line_of row) line
    × ((IsEndLine (line_of row) × (lines ≡ [])) ⊎ (¬ IsEndLine (line_of row) × AreLinesFrom (at + size_of row) rows lines))

-- these are the lines of a source
pub record AreLines (source : List ℕ) (lines : List SourceLine) : Type 0 where
  pub all : AreLinesFrom 0 (rows_of source) lines

-- the first of these rows has this number; the row `line` breaks a rule in this way, and no row above it breaks one or is an
-- END line
abbrev pub IsFaultFrom : ℕ → List Row → ℕ → TextKind → Type 0
IsFaultFrom number [] line kind = ⊥
IsFaultFrom number (row ∷ rows) line kind =
    ((line ≡ number) × IsFaultOf (line_of row) kind)
    ⊎ (IsSound (line_of row) × ¬ IsEndLine (line_of row) × IsFaultFrom (number + 1) rows line kind)

-- the lowest line of a source that breaks a rule, and how
pub record IsFaultAt (source : List ℕ) (line : ℕ) (kind : TextKind) : Type 0 where
  pub lowest : IsFaultFrom 1 (rows_of source) line kind

-- ---- Tokens

-- the token is in the source, and its slice of it is what its kind says
pub record IsTokenOf (source : List ℕ) (annotation : Bool) (token : Token) : Type 0 where
  pub some : token.start < token.end
  pub within : token.end ≤ length source
  pub text : IsToken annotation token.kind (slice_range source token.start token.end)

-- so is each token of these lines
abbrev pub HaveTokensOf : List ℕ → List SourceLine → Type 0
HaveTokensOf source lines =
    AllByRecursion (λ line. AllByRecursion (IsTokenOf source (is_annotation line.kind)) line.tokens) lines
