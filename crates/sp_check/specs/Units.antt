-- The unit of a source, from its bytes (this project's own).
use Rattle.std.specs.Prelude.{ℕ, List, length, map, sum_by}
use Rattle.sp_lex.specs.declared.token.SourceLine.{SourceLine}
use Rattle.sp_lex.specs.Reading.{AreLines}
use Rattle.sp_asm.specs.Assembly.{Row, item_of, image_of, names_of}
use Rattle.sp_asm.specs.Source.{Assembles}
use Rattle.sp_note.specs.Parts.{NoteLine}
use Rattle.sp_note.specs.Source.{AreNotesOf}
use Rattle.sp_prog.specs.declared.routine.Routine.{Routine}
use Rattle.sp_prog.specs.Program.{Program}
use Rattle.sp_prog.specs.Rules.{IsUnit}
use Rattle.sp_unit.specs.Faults as faults
use Rattle.sp_unit.specs.Lines.{Entry, merged}
use Rattle.sp_unit.specs.Sources as sources
use Rattle.sp_unit.specs.SourceUnits.{IsUnitOf}

-- a source has lines, their statements have this assembly, and their annotation lines say this
pub record IsRead (source : List ℕ) (rows : List Row) (notes : List NoteLine) : Type 0 where
  pub lines : List SourceLine
  pub read : AreLines source lines
  pub assembles : Assembles source lines rows
  pub annotated : AreNotesOf source lines notes

-- what it says as a whole: its image, its names and their values, and its annotation lines
abbrev pub said : List Row → List NoteLine → faults.Source
said rows notes = sources.source (image_of rows) (names_of rows) notes

-- its statements and its annotation lines, by rising line
abbrev pub entries : List Row → List NoteLine → List Entry
entries rows notes = merged (map item_of rows) notes

-- the source has this unit: what it says, as a program that keeps the rules of units
pub record HasUnit (source : List ℕ) (p : Program) : Type 0 where
  pub rows : List Row
  pub notes : List NoteLine
  pub read : IsRead source rows notes
  pub is : IsUnitOf (said rows notes) (entries rows notes) p
  pub keeps : IsUnit p

-- how many instructions a unit has
abbrev pub instruction_count : Program → ℕ
instruction_count p = sum_by (λ (r : Routine). length r.code) p.routines
