use Rattle.std.proofs.Common.{◌≡◌, ◌++◌, take}
use Rattle.std.specs.List.{filter_map}
use Rattle.sp_unit.specs.code.Scopes.{source_of}
use Rattle.sp_unit.proofs.ports.with_ports.Given as goal

abbrev pub invariant-loop-e : goal.invariant-loop-e
invariant-loop-e l = l.all.items ≡ l.initial.all.items ++ filter_map (source_of l.scope).value (take l.e-index l.list)
