use Rattle.std.proofs.Common.{◌≡◌, min, take}
use Rattle.sp_linear.specs.Linear.{counts, named}
use Rattle.sp_linear.proofs.limits.all_counts.Given as goal

abbrev pub invariant-loop-h : goal.invariant-loop-h
invariant-loop-h l = l.total ≡ min (counts (named (take l.h-index l.by))) 1025
