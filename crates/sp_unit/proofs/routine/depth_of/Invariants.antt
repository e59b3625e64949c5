use Rattle.std.proofs.Common.{◌≡◌, [], take}
use Rattle.std.specs.List.{filter_map}
use Rattle.sp_note.specs.Parts.{NoteLine}
use Rattle.sp_unit.specs.Lines.{note_in}
use Rattle.sp_unit.specs.SourceUnits.{depth_in}
use Rattle.sp_unit.specs.code.Entries.{entries_of}
use Rattle.sp_unit.proofs.routine.depth_of.Given as goal

abbrev pub invariant-loop-e : goal.invariant-loop-e
invariant-loop-e l = filter_map (λ (n : NoteLine). depth_in n.part) (filter_map note_in (entries_of (take l.e-index l.lines))) ≡ []
