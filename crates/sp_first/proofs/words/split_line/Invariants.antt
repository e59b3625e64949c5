use Rattle.std.proofs.Common.{◌-◌, length}
use Rattle.sp_first.proofs.WordLaws.{LineGoesOn}
use Rattle.sp_first.proofs.words.split_line.Given as goal

abbrev pub invariant-loop-n : goal.invariant-loop-n
invariant-loop-n l = LineGoesOn l.bytes l.n

abbrev pub decreases-loop-n : goal.decreases-loop-n
decreases-loop-n l = length l.bytes - l.n
