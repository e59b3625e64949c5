use Rattle.sp_struct.specs.code.Calls.{RecursHere}
use Rattle.sp_struct.specs.code.Lowest.{LowestSoFar}
use Rattle.sp_struct.proofs.recursion.lowest_recursion.Given as goal

abbrev pub invariant-routines : goal.invariant-routines
invariant-routines l = LowestSoFar (RecursHere l.unit) l.place 0 l.best
