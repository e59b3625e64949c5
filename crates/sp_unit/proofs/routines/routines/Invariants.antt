use Rattle.std.proofs.Common.{drop}
use Rattle.sp_unit.specs.Faults.{areas_by}
use Rattle.sp_unit.specs.code.Entries.{entries_of}
use Rattle.sp_unit.specs.code.Scopes.{source_of}
use Rattle.sp_unit.proofs.CodedLemmas.{AreFound}
use Rattle.sp_unit.proofs.routines.routines.Given as goal

abbrev pub invariant-loop-i : goal.invariant-loop-i
invariant-loop-i l =
    AreFound (source_of l.scope) (areas_by (source_of l.scope).value (source_of l.scope).notes) (entries_of l.lines) (entries_of (drop l.i l.lines)) l.found.items
