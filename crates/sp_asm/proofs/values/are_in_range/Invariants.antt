use Rattle.std.proofs.Common.{◌≡◌, drop}
use Rattle.sp_asm.specs.Values.{are_in_range}
use Rattle.sp_asm.proofs.values.are_in_range.Given as goal

abbrev pub invariant-loop-i : goal.invariant-loop-i
invariant-loop-i l = are_in_range (drop l.i l.operands) (drop l.i l.values) ≡ are_in_range l.operands l.values
