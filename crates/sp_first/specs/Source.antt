-- What the code's source says, as a reading.
use Rattle.sp_first.specs.declared.source.Source.{Source}
use Rattle.sp_first.specs.Program.{Reading}

abbrev pub reading_of_source : Source → Reading
reading_of_source s = record { name = s.name; post = s.post; value = s.value; changes = s.changes.items; program = s.program.items }
