use Rattle.std.proofs.Common.{take}
use Rattle.sp_linear.specs.code.Table.{AreSums}
use Rattle.sp_linear.proofs.sums.Polynomial.new.Given as goal

abbrev pub invariant-loop-m : goal.invariant-loop-m
invariant-loop-m l = AreSums (take l.m-index l.fn.products.items) l.sums.entries
