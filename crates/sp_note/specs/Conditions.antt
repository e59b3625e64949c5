-- Which tokens are a condition of an annotation, and how others break its rules (this project's own).
use Rattle.std.specs.Prelude.{◌≡◌, ◌↔◌, ℕ, ◌<◌, ◌≤◌, List, [], ◌∷◌, Option, Some, None, Result, Ok, Err, IsSome, IsNone}
use Rattle.sp_lex.specs.declared.token.Token.{Token}
use Rattle.sp_note.specs.declared.operand.Sort.TheVariants.{Truth}
use Rattle.sp_note.specs.declared.refusal.NoteKind.{NoteKind}
use Rattle.sp_note.specs.declared.refusal.NoteKind.TheVariants.{Syntax, TooDeep, Sort, Wide}
use Rattle.sp_note.specs.declared.word.Word.{Word}
use Rattle.sp_note.specs.Bounds.{bound_of}
use Rattle.sp_note.specs.Grammar.{Tree, Spells, depth_of}
use Rattle.sp_note.specs.Meaning.{meaning_of}
use Rattle.sp_note.specs.RawNotes.{RawNote}
use Rattle.sp_note.specs.Sorts.{sort_of}
use Rattle.sp_note.specs.Words.{words_of}
use Rattle.sp_note.specs.code.Lines.{condition_of}

-- these tokens are written as a condition, and this is its tree
pub record IsWritten (source : List ℕ) (tokens : List Token) (t : Tree) : Type 0 where
  pub ws : List Word
  pub words : words_of source tokens ≡ Some ws
  pub spells : Spells ws t

-- how many constructs may be nested
abbrev pub limit : ℕ
limit = 64

-- these tokens are a condition, and this is the annotation that it stands for: its tree keeps to the limit on nesting, each part
-- has the sort that its place asks, and the bound of each is below 2 to the power 100
pub record IsConditionOf (source : List ℕ) (tokens : List Token) (note : RawNote) : Type 0 where
  pub tree : Tree
  pub written : IsWritten source tokens tree
  pub shallow : depth_of tree ≤ limit
  pub means : note ≡ meaning_of tree
  pub sorted : sort_of note ≡ Some Truth
  pub narrow : IsSome (bound_of [] note)

-- how tokens are no condition: they aren't in the grammar; they nest too deep; they keep to the limit, and a part has another
-- sort; all sorts are right, and a bound is too large
abbrev pub BreaksCondition : List ℕ → List Token → NoteKind → Type 0
BreaksCondition source tokens Syntax = (t : Tree) → ¬ IsWritten source tokens t
BreaksCondition source tokens TooDeep = (t : Tree) × IsWritten source tokens t × (limit < depth_of t)
BreaksCondition source tokens Sort = (t : Tree) × IsWritten source tokens t × (depth_of t ≤ limit) × ¬ (sort_of (meaning_of t) ≡ Some Truth)
BreaksCondition source tokens Wide =
    (t : Tree) × IsWritten source tokens t × (depth_of t ≤ limit) × (sort_of (meaning_of t) ≡ Some Truth) × (bound_of [] (meaning_of t) ≡ None)

-- the reader of conditions gives exactly these answers
pub record ConditionsFollowTheGrammar : Type 0 where
  pub right : (source : List ℕ) (tokens : List Token) (note : RawNote) → (condition_of source tokens ≡ Ok note) ↔ IsConditionOf source tokens note
  pub broken : (source : List ℕ) (tokens : List Token) (kind : NoteKind) → (condition_of source tokens ≡ Err kind) ↔ BreaksCondition source tokens kind

-- tokens stand for one annotation at most, at one depth
pub record ConditionsAreOne : Type 0 where
  pub meaning : (source : List ℕ) (tokens : List Token) (one other : Tree) → IsWritten source tokens one → IsWritten source tokens other
      → meaning_of one ≡ meaning_of other
  pub depth : (source : List ℕ) (tokens : List Token) (one other : Tree) → IsWritten source tokens one → IsWritten source tokens other
      → depth_of one ≡ depth_of other
