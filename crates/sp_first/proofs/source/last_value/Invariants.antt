use Rattle.std.proofs.Common.{◌≡◌, ◌≤◌, reverse, take, length}
use Rattle.sp_first.specs.Program.{last_value}
use Rattle.sp_first.proofs.source.last_value.Given as goal

abbrev pub invariant-loop-n : goal.invariant-loop-n
invariant-loop-n l = (l.n ≤ length l.transfers) × (last_value (reverse (take l.n l.transfers)) l.wanted ≡ last_value (reverse l.transfers) l.fn.reg)

abbrev pub decreases-loop-n : goal.decreases-loop-n
decreases-loop-n l = l.n
