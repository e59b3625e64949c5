use Rattle.std.proofs.Common.{◌≡◌, take, true}
use Rattle.std.specs.Prelude.{nat_eq}
use Rattle.sp_linear.specs.code.Tests.{zero_apart}
use Rattle.sp_linear.proofs.sums.Polynomial.others_are_zero.Given as goal

abbrev pub invariant-loop-m : goal.invariant-loop-m
invariant-loop-m l = zero_apart nat_eq l.self (take l.m-index l.self) ≡ true
