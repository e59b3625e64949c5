use Rattle.std.proofs.Common.{◌≡◌, ◌^◌, min, take}
use Rattle.sp_linear.specs.Linear.{sizes, named}
use Rattle.sp_linear.proofs.limits.all_sizes.Given as goal

abbrev pub invariant-loop-h : goal.invariant-loop-h
invariant-loop-h l = l.total ≡ min (sizes (named (take l.h-index l.by))) (2 ^ 120)
