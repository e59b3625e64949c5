use Rattle.sp_flow.specs.code.Counts.{BrokenUpTo}
use Rattle.sp_flow.specs.code.Faults.{IsFirst}
use Rattle.sp_flow.proofs.checking.count_all.Given as goal

abbrev pub invariant-routines : goal.invariant-routines
invariant-routines l = IsFirst (λ f. BrokenUpTo l.unit l.place f) l.best
