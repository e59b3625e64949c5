use Rattle.std.proofs.Common.{take}
use Rattle.sp_asm.specs.Names.{value_in}
use Rattle.sp_asm.specs.code.Passes.{Declares}
use Rattle.sp_asm.proofs.names.declared_names.Given as goal

abbrev pub invariant-loop-s : goal.invariant-loop-s
invariant-loop-s l = Declares (value_in l.names.entries) (take l.s-index l.statements)
