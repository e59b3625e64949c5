use Rattle.std.proofs.Common.{length}
use Rattle.sp_rules.proofs.memories.+outside_each.Given as goal

abbrev pub decreases-outside_each : goal.decreases-outside_each
decreases-outside_each l = length l.areas.now
