use Rattle.std.proofs.Common.{length}
use Rattle.sp_rules.proofs.formulas.+conjunction.Given as goal

abbrev pub decreases-conjunction : goal.decreases-conjunction
decreases-conjunction l = length l.goals.now
