use Rattle.std.proofs.Common.{take}
use Rattle.std.specs.List.{AllZip}
use Rattle.sp_unit.specs.SourceUnits.{IsNoted, raws}
use Rattle.sp_unit.specs.code.Entries.{entries_of}
use Rattle.sp_unit.specs.code.Scopes.{source_of}
use Rattle.sp_unit.specs.code.Sounds.{said_at}
use Rattle.sp_unit.proofs.noted.notes_at.Given as goal

abbrev pub invariant-loop-e : goal.invariant-loop-e
invariant-loop-e l = AllZip (IsNoted (source_of l.scope)) (raws (said_at l.point) (entries_of (take l.e-index l.lines))) l.notes.items
