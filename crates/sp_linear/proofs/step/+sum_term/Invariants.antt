use Rattle.std.proofs.Common.{length}
use Rattle.sp_linear.proofs.step.+sum_term.Given as goal

abbrev pub decreases-sum_term : goal.decreases-sum_term
decreases-sum_term l = length l.by.now
