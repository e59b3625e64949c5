use Rattle.std.proofs.Common.{◌≡◌, drop}
use Rattle.sp_unit.specs.Faults.{address_at, first_of}
use Rattle.sp_unit.specs.code.Entries.{entries_of}
use Rattle.sp_unit.proofs.stretch.first_address.Given as goal

abbrev pub invariant-loop-e : goal.invariant-loop-e
invariant-loop-e l = first_of address_at (entries_of (drop l.e-index l.all)) ≡ first_of address_at (entries_of l.all)
