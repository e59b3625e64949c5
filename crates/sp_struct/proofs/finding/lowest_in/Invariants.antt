use Rattle.sp_struct.specs.code.Lowest.{LowestSoFar, Breaks}
use Rattle.sp_struct.proofs.finding.lowest_in.Given as goal

abbrev pub invariant-places : goal.invariant-places
invariant-places l = LowestSoFar (Breaks l.unit l.all l.rule) l.place l.at l.best
