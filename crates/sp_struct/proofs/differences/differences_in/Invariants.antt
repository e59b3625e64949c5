use Rattle.sp_struct.specs.code.Gaps.{LowestGap}
use Rattle.sp_struct.proofs.differences.differences_in.Given as goal

abbrev pub invariant-places : goal.invariant-places
invariant-places l = LowestGap l.unit l.place l.at l.best
