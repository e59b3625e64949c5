use Rattle.std.proofs.Common.{◌≡◌, take}
use Rattle.sp_note.specs.Parts.{lines_of}
use Rattle.sp_unit.specs.Faults.{areas_by}
use Rattle.sp_unit.specs.Sources.{value_by}
use Rattle.sp_unit.proofs.area_places.all_areas.Given as goal

abbrev pub invariant-loop-note : goal.invariant-loop-note
invariant-loop-note l = l.areas.items ≡ areas_by (value_by l.names.entries) (lines_of (take l.note-index l.notes))
