use Rattle.std.proofs.Common.{take}
use Rattle.sp_unit.specs.code.Building.{AreCoded}
use Rattle.sp_unit.specs.code.Entries.{entries_of}
use Rattle.sp_unit.specs.code.Scopes.{source_of}
use Rattle.sp_unit.proofs.statements.statements.Given as goal

abbrev pub invariant-loop-e : goal.invariant-loop-e
invariant-loop-e l = AreCoded (source_of l.scope) (entries_of (take l.e-index l.lines)) l.coding
