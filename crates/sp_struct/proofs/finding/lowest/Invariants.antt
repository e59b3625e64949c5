use Rattle.sp_struct.specs.code.Lowest.{LowestSoFar, Breaks}
use Rattle.sp_struct.proofs.finding.lowest.Given as goal

abbrev pub invariant-routines : goal.invariant-routines
invariant-routines l = LowestSoFar (Breaks l.unit l.all l.rule) l.place 0 l.best
