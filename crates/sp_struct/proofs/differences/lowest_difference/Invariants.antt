use Rattle.sp_struct.specs.code.Gaps.{LowestGap}
use Rattle.sp_struct.proofs.differences.lowest_difference.Given as goal

abbrev pub invariant-routines : goal.invariant-routines
invariant-routines l = LowestGap l.unit l.place 0 l.best
