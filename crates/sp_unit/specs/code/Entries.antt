-- The lines of the code.
use Rattle.std.specs.Prelude.{ℕ, List, map}
use Rattle.sp_note.specs.Parts as parts
use Rattle.sp_note.specs.declared.part.Part as part
use Rattle.sp_unit.specs.declared.entry.Entry as declared
use Rattle.sp_unit.specs.declared.entry.Entry.TheVariants as entry
use Rattle.sp_unit.specs.Lines.{Entry, Statement, Annotation}

-- an annotation line with this part of the code
abbrev pub note : ℕ → part.Part → parts.NoteLine
note line part = record { line = line; part = parts.part_of part }

-- what a line of the code stands for
abbrev pub entry_of : declared.Entry → Entry
entry_of (entry.Statement item) = Statement item.now
entry_of (entry.Annotation note) = Annotation (parts.line_of note.now)

abbrev pub entries_of : List declared.Entry → List Entry
entries_of = map entry_of
