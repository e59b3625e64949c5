-- Where a listing and annotation lines come from, and what a call on them answers (this project's own).
use Rattle.std.specs.Prelude.{◌≡◌, ◌⊎◌, ℕ, List, Result, Ok, Err}
use Rattle.sp_base.specs.declared.refused.Refused.{Refused}
use Rattle.sp_base.specs.declared.refused.Refused.TheVariants as refused
use Rattle.sp_base.specs.Refused.{IsUnlessMemory, at_line}
use Rattle.sp_lex.specs.declared.token.SourceLine.{SourceLine}
use Rattle.sp_lex.specs.Reading.{AreLines}
use Rattle.sp_asm.specs.declared.listing.Listing.{Listing}
use Rattle.sp_asm.specs.Listing.{IsListing}
use Rattle.sp_note.specs.declared.part.NoteLine.{NoteLine}
use Rattle.sp_note.specs.Parts.{lines_of}
use Rattle.sp_note.specs.Source.{AreNotes}
use Rattle.sp_prog.specs.Program.{Program}
use Rattle.sp_unit.specs.declared.refusal.UnitKind.{UnitKind}
use Rattle.sp_unit.specs.Lines.{Entry, merged}
use Rattle.sp_unit.specs.Faults.{Source, KeepsRules, IsCause}
use Rattle.sp_unit.specs.Sources.{source}
use Rattle.sp_unit.specs.SourceUnits.{IsUnitOf}

-- a listing and annotation lines are those of one source
pub record AreOfOneSource (listing : Listing) (notes : List NoteLine) : Type 0 where
  pub bytes : List ℕ
  pub rows : List SourceLine
  pub read : AreLines bytes rows
  pub listed : IsListing bytes rows listing
  pub noted : AreNotes bytes rows notes

-- what they say, and their lines in order
abbrev pub said_by : Listing → List NoteLine → Source
said_by listing notes = source listing.image listing.names.entries (lines_of notes)

abbrev pub entries_by : Listing → List NoteLine → List Entry
entries_by listing notes = merged listing.items (lines_of notes)

-- their unit is this one
abbrev pub IsJoined : Listing → List NoteLine → Program → Type 0
IsJoined listing notes p = IsUnitOf (said_by listing notes) (entries_by listing notes) p

-- they have no unit, for this cause
abbrev pub IsUnjoined : Listing → List NoteLine → ℕ → UnitKind → Type 0
IsUnjoined listing notes line kind = IsCause (said_by listing notes) (entries_by listing notes) line kind

-- lines that keep the rules are answered by their unit, and each cause is refused at its line, unless memory ran out
pub record IsAnswered (listing : Listing) (notes : List NoteLine) (result : Result Program (Refused UnitKind)) : Type 0 where
  pub whole : KeepsRules (said_by listing notes) (entries_by listing notes)
      → ((p : Program) × (result ≡ Ok p) × IsJoined listing notes p) ⊎ (result ≡ Err refused.Memory)
  pub exact : (line : ℕ) (kind : UnitKind) → IsUnjoined listing notes line kind → IsUnlessMemory result (Err (at_line line kind))
