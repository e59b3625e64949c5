use Rattle.std.proofs.Common.{◌≡◌, true, take}
use Rattle.sp_linear.specs.Linear.{named}
use Rattle.sp_linear.specs.code.Tests.{are_equations}
use Rattle.sp_linear.proofs.step.all_equations.Given as goal

abbrev pub invariant-loop-h : goal.invariant-loop-h
invariant-loop-h l = are_equations (named (take l.h-index l.by)) ≡ true
