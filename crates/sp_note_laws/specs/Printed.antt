-- Annotations that are printed and read again (this project's own).
use Rattle.std.specs.Prelude.{◌≡◌, ℕ, ◌≤◌, true, List, [], Ok, IsSome}
use Rattle.sp_lex.specs.declared.refusal.TextKind.{TextKind}
use Rattle.sp_lex.specs.declared.token.Token.{Token}
use Rattle.sp_lex.specs.Pieces.{Cut, AreCut, tokens_from, SomeBreaks}
use Rattle.sp_logic.specs.Text.{note_text}
use Rattle.sp_logic.specs.WellFormed.{IsWellFormed}
use Rattle.sp_model.specs.Note as model
use Rattle.sp_note.specs.Bounds.{bound_of}
use Rattle.sp_note.specs.Conditions.{IsWritten, limit}
use Rattle.sp_note.specs.Grammar.{Tree, depth_of}
use Rattle.sp_note.specs.Meaning.{meaning_of}
use Rattle.sp_note.specs.RawNotes.{RawNote, Literal, Constant, Location, Pair, Cell, StackWord, Total, Named, Negative, Parity, Operate, Compare, Not, Connect, Quantify}
use Rattle.sp_note.specs.code.Lines.{condition_of}

-- the quantity as a reader has it: a bound name is a name
abbrev pub quantity_as_read : model.Quantity → RawNote
quantity_as_read (model.Literal n) = Literal n
quantity_as_read (model.Location m x) = Location m x
quantity_as_read (model.Pair m p) = Pair m p
quantity_as_read (model.Cell m x) = Cell m (quantity_as_read x)
quantity_as_read (model.StackWord k) = StackWord k
quantity_as_read (model.Total m x y) = Total m (quantity_as_read x) (quantity_as_read y)
quantity_as_read (model.Negative x) = Negative (quantity_as_read x)
quantity_as_read (model.Parity x) = Parity (quantity_as_read x)
quantity_as_read (model.Operate o x y) = Operate o (quantity_as_read x) (quantity_as_read y)
quantity_as_read (model.Bound name) = Named model.Now name

-- the note as a reader has it
abbrev pub note_as_read : model.Note → RawNote
note_as_read (model.Constant truth) = Constant truth
note_as_read (model.Compare c x y) = Compare c (quantity_as_read x) (quantity_as_read y)
note_as_read (model.Not p) = Not (note_as_read p)
note_as_read (model.Connect c p q) = Connect c (note_as_read p) (note_as_read q)
note_as_read (model.Quantify q name x y p) = Quantify q name (quantity_as_read x) (quantity_as_read y) (note_as_read p)

-- an annotation's text is cut into pieces that break no rule, and these are its tokens
pub record HasTokens (text : List ℕ) (tokens : List Token) : Type 0 where
  pub cuts : List Cut
  pub cut : AreCut true text cuts
  pub sound : (kind : TextKind) → ¬ SomeBreaks true cuts kind
  pub tokens_are : tokens ≡ tokens_from 0 cuts

-- the text is a condition by the grammar, which sets no limit on nesting, and stands for this annotation and for no other
pub record StandsFor (text : List ℕ) (note : RawNote) : Type 0 where
  pub tokens : List Token
  pub cut : HasTokens text tokens
  pub tree : Tree
  pub written : IsWritten text tokens tree
  pub means : meaning_of tree ≡ note
  pub alone : (others : List Token) (other : Tree) → HasTokens text others → IsWritten text others other → meaning_of other ≡ note

-- the printed form of a note stands for that note
abbrev pub PrintedNotesStandForThemselves : Type 0
PrintedNotesStandForThemselves = (note : model.Note) → IsWellFormed note → StandsFor (note_text note) (note_as_read note)

-- so the reader of conditions answers by that note, where the printed form keeps to its limits on nesting and on numbers
abbrev pub PrintedNotesAreRead : Type 0
PrintedNotesAreRead = (note : model.Note) (tokens : List Token) (tree : Tree) → IsWellFormed note → HasTokens (note_text note) tokens
    → IsWritten (note_text note) tokens tree → depth_of tree ≤ limit → IsSome (bound_of [] (note_as_read note))
    → condition_of (note_text note) tokens ≡ Ok (note_as_read note)
