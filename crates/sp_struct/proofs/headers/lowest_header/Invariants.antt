use Rattle.sp_struct.specs.code.Headers.{Header}
use Rattle.sp_struct.specs.code.Lowest.{LowestSoFar}
use Rattle.sp_struct.proofs.headers.lowest_header.Given as goal

abbrev pub invariant-routines : goal.invariant-routines
invariant-routines l = LowestSoFar (Header l.unit) l.place 0 l.best
