use Rattle.std.proofs.Common.{◌≡◌, take}
use Rattle.std.specs.List.{filter_map}
use Rattle.sp_unit.specs.SourceUnits.{named_in}
use Rattle.sp_unit.specs.code.Entries.{entries_of}
use Rattle.sp_unit.specs.code.Scopes.{source_of}
use Rattle.sp_unit.specs.code.Sounds.{ports_by}
use Rattle.sp_unit.proofs.ports.ports.Given as goal

abbrev pub invariant-loop-e : goal.invariant-loop-e
invariant-loop-e l = l.all.items ≡ filter_map (source_of l.scope).value (named_in (ports_by l.direction) (entries_of (take l.e-index l.lines)))
