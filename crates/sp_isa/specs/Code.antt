-- Codes of instructions (8080 manual, the tables of each instruction's format).
use Rattle.std.specs.Prelude.{◌≡◌, ℕ, ◌+◌, ◌*◌, ◌/◌, ◌%◌, Bool, true, false, List, [], ◌∷◌, ◌++◌, length, nat_lt}
use Rattle.sp_base.specs.declared.location.Reg.{Reg}
use Rattle.sp_base.specs.declared.location.Reg.TheVariants as reg
use Rattle.sp_base.specs.declared.pair.Pair.{Pair}
use Rattle.sp_base.specs.declared.pair.Pair.TheVariants as pair
use Rattle.sp_isa.specs.declared.instr.Arg.{Arg}
use Rattle.sp_isa.specs.declared.instr.Arg.TheVariants as arg
use Rattle.sp_isa.specs.declared.instr.StackPair.{StackPair}
use Rattle.sp_isa.specs.declared.instr.StackPair.TheVariants as stack
use Rattle.sp_isa.specs.declared.instr.Cond.{Cond}
use Rattle.sp_isa.specs.declared.instr.Cond.TheVariants as when
use Rattle.sp_isa.specs.declared.instr.Op.{Op}
use Rattle.sp_isa.specs.declared.instr.Op.TheVariants as op
use Rattle.sp_isa.specs.declared.instr.Instr.{Instr}
use Rattle.sp_isa.specs.declared.instr.Instr.TheVariants.{Mov, Mvi, Inr, Dcr, Alu, AluImmediate, Lxi, Dad, Inx, Dcx, Stax, Ldax, Shld, Lhld, Sta, Lda, Rlc, Rrc, Ral, Rar, Daa, Cma, Stc, Cmc, Push, Pop, Jmp, Jcc, Call, Ccc, Ret, Rcc, Rst, Pchl, Sphl, Xthl, Xchg, In, Out, Nop, Ei, Di, Hlt}

-- the code of a register
abbrev pub reg_code : Reg → ℕ
reg_code reg.B = 0
reg_code reg.C = 1
reg_code reg.D = 2
reg_code reg.E = 3
reg_code reg.H = 4
reg_code reg.L = 5
reg_code reg.A = 7

-- the code of an operand: 6 is M, the cell at HL
abbrev pub arg_code : Arg → ℕ
arg_code (arg.Reg r) = reg_code r
arg_code arg.M = 6

-- the code of a register pair
abbrev pub pair_code : Pair → ℕ
pair_code pair.B = 0
pair_code pair.D = 1
pair_code pair.H = 2
pair_code pair.Sp = 3

-- the code of a pair that is pushed or popped
abbrev pub stack_code : StackPair → ℕ
stack_code stack.B = 0
stack_code stack.D = 1
stack_code stack.H = 2
stack_code stack.Psw = 3

-- the code of a condition
abbrev pub cond_code : Cond → ℕ
cond_code when.Nz = 0
cond_code when.Z = 1
cond_code when.Nc = 2
cond_code when.C = 3
cond_code when.Po = 4
cond_code when.Pe = 5
cond_code when.P = 6
cond_code when.M = 7

-- the code of an operation on the accumulator
abbrev pub op_code : Op → ℕ
op_code op.Add = 0
op_code op.Adc = 1
op_code op.Sub = 2
op_code op.Sbb = 3
op_code op.Ana = 4
op_code op.Xra = 5
op_code op.Ora = 6
op_code op.Cmp = 7

-- the code that would be MOV M,M is HLT; STAX and LDAX have the pairs B and D alone; RST has the numbers 0 to 7
abbrev pub valid : Instr → Bool
valid (Mov arg.M arg.M) = false
valid (Stax pair.H) = false
valid (Stax pair.Sp) = false
valid (Ldax pair.H) = false
valid (Ldax pair.Sp) = false
valid (Rst n) = nat_lt n 8
valid _ = true

-- the first byte of an instruction, by the fields of its eight bits
abbrev pub opcode : Instr → ℕ
-- 01dddsss
opcode (Mov to from) = 0b01_000_000 + 8 * arg_code to + arg_code from
-- 00ddd110
opcode (Mvi to _) = 0b00_000_110 + 8 * arg_code to
-- 00ddd100
opcode (Inr y) = 0b00_000_100 + 8 * arg_code y
-- 00ddd101
opcode (Dcr y) = 0b00_000_101 + 8 * arg_code y
-- 10ooosss
opcode (Alu o y) = 0b10_000_000 + 8 * op_code o + arg_code y
-- 11ooo110
opcode (AluImmediate o _) = 0b11_000_110 + 8 * op_code o
-- 00pp0001
opcode (Lxi p _) = 0b00_00_0001 + 16 * pair_code p
-- 00pp1001
opcode (Dad p) = 0b00_00_1001 + 16 * pair_code p
-- 00pp0011
opcode (Inx p) = 0b00_00_0011 + 16 * pair_code p
-- 00pp1011
opcode (Dcx p) = 0b00_00_1011 + 16 * pair_code p
-- 00pp0010
opcode (Stax p) = 0b00_00_0010 + 16 * pair_code p
-- 00pp1010
opcode (Ldax p) = 0b00_00_1010 + 16 * pair_code p
opcode (Shld _) = 0b00_100_010
opcode (Lhld _) = 0b00_101_010
opcode (Sta _) = 0b00_110_010
opcode (Lda _) = 0b00_111_010
opcode Rlc = 0b00_000_111
opcode Rrc = 0b00_001_111
opcode Ral = 0b00_010_111
opcode Rar = 0b00_011_111
opcode Daa = 0b00_100_111
opcode Cma = 0b00_101_111
opcode Stc = 0b00_110_111
opcode Cmc = 0b00_111_111
-- 11pp0101
opcode (Push p) = 0b11_00_0101 + 16 * stack_code p
-- 11pp0001
opcode (Pop p) = 0b11_00_0001 + 16 * stack_code p
opcode (Jmp _) = 0b11_000_011
-- 11ccc010
opcode (Jcc when _) = 0b11_000_010 + 8 * cond_code when
opcode (Call _) = 0b11_001_101
-- 11ccc100
opcode (Ccc when _) = 0b11_000_100 + 8 * cond_code when
opcode Ret = 0b11_001_001
-- 11ccc000
opcode (Rcc when) = 0b11_000_000 + 8 * cond_code when
-- 11nnn111
opcode (Rst n) = 0b11_000_111 + 8 * n
opcode Pchl = 0b11_101_001
opcode Sphl = 0b11_111_001
opcode Xthl = 0b11_100_011
opcode Xchg = 0b11_101_011
opcode (In _) = 0b11_011_011
opcode (Out _) = 0b11_010_011
opcode Nop = 0b00_000_000
opcode Ei = 0b11_111_011
opcode Di = 0b11_110_011
opcode Hlt = 0b01_110_110

-- the bytes of a word, its low byte first
abbrev pub bytes_of : ℕ → List ℕ
bytes_of w = w % 256 ∷ w / 256 ∷ []

-- the bytes of an instruction's operand, which come after its first byte
abbrev pub operand : Instr → List ℕ
operand (Mvi _ n) = n ∷ []
operand (AluImmediate _ n) = n ∷ []
operand (In n) = n ∷ []
operand (Out n) = n ∷ []
operand (Lxi _ w) = bytes_of w
operand (Shld w) = bytes_of w
operand (Lhld w) = bytes_of w
operand (Sta w) = bytes_of w
operand (Lda w) = bytes_of w
operand (Jmp w) = bytes_of w
operand (Jcc _ w) = bytes_of w
operand (Call w) = bytes_of w
operand (Ccc _ w) = bytes_of w
operand _ = []

-- the bytes of an instruction
abbrev pub code : Instr → List ℕ
code i = opcode i ∷ operand i

-- three bytes begin with this instruction, and it takes so many of them
abbrev pub Begins : ℕ → ℕ → ℕ → Instr → ℕ → Type 0
Begins b0 b1 b2 i n = (n ≡ length (code i)) × ((rest : List ℕ) × (b0 ∷ b1 ∷ b2 ∷ [] ≡ code i ++ rest))
