use Rattle.sp_struct.specs.code.Lowest.{LowestSoFar}
use Rattle.sp_struct.specs.code.Loops.{UncutHere}
use Rattle.sp_struct.proofs.loops.lowest_loop.Given as goal

abbrev pub invariant-routines : goal.invariant-routines
invariant-routines l = LowestSoFar (UncutHere l.unit) l.place 0 l.best
