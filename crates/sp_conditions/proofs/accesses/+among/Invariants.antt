use Rattle.std.proofs.Common.{length}
use Rattle.sp_conditions.proofs.accesses.+among.Given as goal

abbrev pub decreases-among : goal.decreases-among
decreases-among l = length l.spans.now
