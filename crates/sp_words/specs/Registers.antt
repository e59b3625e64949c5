-- The names of registers and pairs (8080 Assembly Language Programming Manual, "Operand field").
use Rattle.std.specs.Prelude.{ℕ, List, codes}
use Rattle.sp_base.specs.declared.location.Reg.{Reg}
use Rattle.sp_base.specs.declared.location.Reg.TheVariants as reg
use Rattle.sp_base.specs.declared.pair.Pair.{Pair}
use Rattle.sp_base.specs.declared.pair.Pair.TheVariants as pair
use Rattle.sp_isa.specs.declared.instr.Arg.{Arg}
use Rattle.sp_isa.specs.declared.instr.Arg.TheVariants as arg
use Rattle.sp_isa.specs.declared.instr.StackPair.{StackPair}
use Rattle.sp_isa.specs.declared.instr.StackPair.TheVariants as stack

abbrev pub register_name : Reg → List ℕ
register_name reg.A = codes "A"
register_name reg.B = codes "B"
register_name reg.C = codes "C"
register_name reg.D = codes "D"
register_name reg.E = codes "E"
register_name reg.H = codes "H"
register_name reg.L = codes "L"

-- a register, or M, the cell at the address in HL
abbrev pub arg_name : Arg → List ℕ
arg_name (arg.Reg r) = register_name r
arg_name arg.M = codes "M"

-- a pair goes by its first register
abbrev pub pair_name : Pair → List ℕ
pair_name pair.B = codes "B"
pair_name pair.D = codes "D"
pair_name pair.H = codes "H"
pair_name pair.Sp = codes "SP"

-- what PUSH and POP take
abbrev pub stack_pair_name : StackPair → List ℕ
stack_pair_name stack.B = codes "B"
stack_pair_name stack.D = codes "D"
stack_pair_name stack.H = codes "H"
stack_pair_name stack.Psw = codes "PSW"
