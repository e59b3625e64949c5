-- The annotations of a source: every annotation line says one thing, and the lowest line that says none is refused (this project's
-- own).
use Rattle.std.specs.Prelude.{◌≡◌, ◌⊎◌, ℕ, ◌+◌, List, [], ◌∷◌, ◌++◌, length, Result, Ok, Err}
use Rattle.sp_base.specs.declared.refused.Refused.{Refused}
use Rattle.sp_base.specs.declared.refused.Refused.TheVariants as refused
use Rattle.sp_base.specs.Refused.{IsUnlessMemory}
use Rattle.sp_lex.specs.declared.token.LineKind.{LineKind}
use Rattle.sp_lex.specs.declared.token.LineKind.TheVariants as line
use Rattle.sp_lex.specs.declared.token.SourceLine.{SourceLine}
use Rattle.sp_lex.specs.declared.token.Token.{Token}
use Rattle.sp_note.specs.declared.part.NoteLine as declared
use Rattle.sp_note.specs.declared.refusal.NoteKind.{NoteKind}
use Rattle.sp_note.specs.Parts.{Part, NoteLine, lines_of}
use Rattle.sp_note.specs.code.Lines.{part_at}

-- what a line gives: what it says, and nothing where it is empty or a statement
abbrev pub Gives : LineKind → List ℕ → ℕ → List Token → List NoteLine → Type 0
Gives line.Annotation source number tokens given =
    (part : Part) × (part_at source tokens ≡ Ok part) × (given ≡ record { line = number; part = part } ∷ [])
Gives line.Empty source number tokens given = given ≡ []
Gives line.Statement source number tokens given = given ≡ []

-- the annotations of lines, the first of which has this number
abbrev pub AreNotesFrom : List ℕ → ℕ → List SourceLine → List NoteLine → Type 0
AreNotesFrom source number [] notes = notes ≡ []
AreNotesFrom source number (first ∷ lines) notes =
    (given : List NoteLine) × (below : List NoteLine) × (notes ≡ given ++ below)
    × Gives first.kind source number first.tokens given × AreNotesFrom source (number + 1) lines below

-- the annotations of a source with these lines, in their order
abbrev pub AreNotesOf : List ℕ → List SourceLine → List NoteLine → Type 0
AreNotesOf source lines notes = AreNotesFrom source 1 lines notes

-- of lines, the first of which has this number, the lowest that says nothing right, and how
pub record IsUnreadFrom (source : List ℕ) (number : ℕ) (lines : List SourceLine) (at : ℕ) (kind : NoteKind) : Type 0 where
  pub above : List SourceLine
  pub broken : SourceLine
  pub below : List SourceLine
  pub whole : lines ≡ above ++ broken ∷ below
  pub number_is : at ≡ number + length above
  pub notes : List NoteLine
  pub read : AreNotesFrom source number above notes
  pub annotation_line : broken.kind ≡ line.Annotation
  pub breaks : part_at source broken.tokens ≡ Err kind

-- the lowest annotation line of a source that is refused, and why
abbrev pub IsUnread : List ℕ → List SourceLine → ℕ → NoteKind → Type 0
IsUnread source lines at kind = IsUnreadFrom source 1 lines at kind

-- the source's lines have these annotations, and these are theirs in the code
abbrev pub AreNotes : List ℕ → List SourceLine → List declared.NoteLine → Type 0
AreNotes source lines notes = AreNotesOf source lines (lines_of notes)

-- a source whose lines have annotations is answered by them, and one with a line that is refused by that, unless memory ran out
pub record IsAnswered (source : List ℕ) (lines : List SourceLine) (result : Result (List declared.NoteLine) (Refused NoteKind)) : Type 0 where
  pub whole : (notes : List NoteLine) → AreNotesOf source lines notes
      → ((read : List declared.NoteLine) × (result ≡ Ok read) × (lines_of read ≡ notes)) ⊎ (result ≡ Err refused.Memory)
  pub exact : (at : ℕ) (kind : NoteKind) → IsUnread source lines at kind → IsUnlessMemory result (Err (refused.At (record { 0 = at }) kind))
