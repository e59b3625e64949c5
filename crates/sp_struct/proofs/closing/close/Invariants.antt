use Rattle.sp_struct.specs.code.Ways.{ClosedBefore}
use Rattle.sp_struct.proofs.closing.close.Given as goal

abbrev pub invariant-places : goal.invariant-places
invariant-places l = ClosedBefore l.fn.rows.items l.rows.items l.place
