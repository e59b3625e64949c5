use Rattle.std.proofs.Common.{◌≡◌, ◌++◌, take}
use Rattle.sp_linear.specs.Polynomials.{times_one}
use Rattle.sp_linear.proofs.product.add_times.Given as goal

abbrev pub invariant-loop-n : goal.invariant-loop-n
invariant-loop-n l = l.out.items ≡ l.fn.out.items ++ times_one l.m (take l.n-index l.ns)
