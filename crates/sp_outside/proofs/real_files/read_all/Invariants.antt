use Rattle.std.proofs.Common.{◌-◌, ◌≤◌, length, vec_len}
use Rattle.sp_outside.proofs.real_files.read_all.Given as goal

abbrev pub invariant-loop-n : goal.invariant-loop-n
invariant-loop-n g l = vec_len l.bytes ≤ l.limit

abbrev pub decreases-loop-n : goal.decreases-loop-n
decreases-loop-n g l = l.limit - vec_len l.bytes
