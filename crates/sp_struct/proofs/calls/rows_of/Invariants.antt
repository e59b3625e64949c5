use Rattle.sp_struct.specs.code.Calls.{TellCalls}
use Rattle.sp_struct.proofs.calls.rows_of.Given as goal

abbrev pub invariant-routines : goal.invariant-routines
invariant-routines l = TellCalls l.unit l.place l.rows.items
