use Rattle.sp_struct.specs.code.Lowest.{LowestSoFar}
use Rattle.sp_struct.specs.code.Loops.{UncutHere}
use Rattle.sp_struct.proofs.loops.loops_in.Given as goal

abbrev pub invariant-places : goal.invariant-places
invariant-places l = LowestSoFar (UncutHere l.unit) l.place l.at l.best
