use Rattle.std.proofs.Common.{◌≡◌, take}
use Rattle.sp_linear.specs.Polynomials.{multiply}
use Rattle.sp_linear.proofs.product.multiplied.Given as goal

abbrev pub invariant-loop-m : goal.invariant-loop-m
invariant-loop-m l = l.out.items ≡ multiply (take l.m-index l.ms) l.ns
