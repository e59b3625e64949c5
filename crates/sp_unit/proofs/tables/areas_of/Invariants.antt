use Rattle.std.proofs.Common.{◌≡◌, ℕ, List, find, bytes_eq, nat_eq, take}
use Rattle.std.specs.Cmp.Lexicographic.{pointwise}
use Rattle.std.specs.Map.{lookup}
use Rattle.sp_note.specs.Parts.{lines_of}
use Rattle.sp_prog.specs.declared.area.Area.{Area}
use Rattle.sp_unit.specs.Faults.{areas_by}
use Rattle.sp_unit.specs.Sources.{value_by}
use Rattle.sp_unit.proofs.tables.areas_of.Given as goal

abbrev pub invariant-loop-note : goal.invariant-loop-note
invariant-loop-note l =
    (name : List ℕ) → lookup (pointwise nat_eq name) l.areas.entries
    ≡ find (λ (a : Area). bytes_eq a.name name) (areas_by (value_by l.names.entries) (lines_of (take l.note-index l.notes)))
