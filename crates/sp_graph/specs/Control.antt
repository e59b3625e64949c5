-- How control leaves an instruction, and which instructions access memory (8080 manual, "Jump instructions", "Call
-- subroutine instructions", "Return from subroutine instructions", "RST instruction", "Memory addressing").
use Rattle.std.specs.Prelude.{◌*◌, Bool, true, false, ◌||◌}
use Rattle.sp_graph.specs.declared.control.Control.{Control}
use Rattle.sp_graph.specs.declared.control.Control.TheVariants.{Next, Jump, JumpIf, Call, CallIf, Return, ReturnIf, Halt}
use Rattle.sp_isa.specs.declared.instr.Arg.{Arg}
use Rattle.sp_isa.specs.declared.instr.Arg.TheVariants as arg
use Rattle.sp_isa.specs.declared.instr.Instr.{Instr}
use Rattle.sp_isa.specs.declared.instr.Instr.TheVariants as instr

abbrev pub control_of : Instr → Control
control_of (instr.Jmp address) = Jump address
control_of (instr.Jcc condition address) = JumpIf address
control_of (instr.Call address) = Call address
control_of (instr.Ccc condition address) = CallIf address
control_of (instr.Rst number) = Call (8 * number)
control_of instr.Ret = Return
control_of (instr.Rcc condition) = ReturnIf
control_of instr.Hlt = Halt
control_of _ = Next

-- M, the cell at HL
abbrev pub is_cell : Arg → Bool
is_cell (arg.Reg r) = false
is_cell arg.M = true

-- an instruction that reads or writes M, or STAX or LDAX
abbrev pub accesses : Instr → Bool
accesses (instr.Mov to from) = is_cell to || is_cell from
accesses (instr.Mvi operand byte) = is_cell operand
accesses (instr.Inr operand) = is_cell operand
accesses (instr.Dcr operand) = is_cell operand
accesses (instr.Alu op operand) = is_cell operand
accesses (instr.Stax pair) = true
accesses (instr.Ldax pair) = true
accesses _ = false
