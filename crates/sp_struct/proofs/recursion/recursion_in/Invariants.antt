use Rattle.sp_struct.specs.code.Calls.{RecursHere}
use Rattle.sp_struct.specs.code.Lowest.{LowestSoFar}
use Rattle.sp_struct.proofs.recursion.recursion_in.Given as goal

abbrev pub invariant-places : goal.invariant-places
invariant-places l = LowestSoFar (RecursHere l.unit) l.place l.at l.best
