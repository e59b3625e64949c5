use Rattle.std.proofs.Common.{take}
use Rattle.sp_asm.specs.Names.{value_in}
use Rattle.sp_asm.specs.Values.{AreValues}
use Rattle.sp_asm.proofs.values.evaluate.Given as goal

abbrev pub invariant-loop-operand : goal.invariant-loop-operand
invariant-loop-operand l = AreValues (value_in l.names.entries) l.here (take l.operand-index l.operands) l.values.items
