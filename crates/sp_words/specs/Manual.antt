-- The names of instructions and directives (8080 Assembly Language Programming Manual, chapter "Assembly language
-- instructions"), by families, and the forms of their operands.
use Rattle.std.specs.Prelude.{◌≡◌, ℕ, List, ◌++◌, Option, Some, None, codes}
use Rattle.sp_isa.specs.declared.instr.Cond.{Cond}
use Rattle.sp_isa.specs.declared.instr.Cond.TheVariants as when
use Rattle.sp_isa.specs.declared.instr.Op.{Op}
use Rattle.sp_isa.specs.declared.instr.Op.TheVariants as op
use Rattle.sp_isa.specs.declared.instr.Instr.{Instr}
use Rattle.sp_isa.specs.declared.instr.Instr.TheVariants as instr
use Rattle.sp_words.specs.declared.mnemonic.Assignment.TheVariants.{Equ, Set}
use Rattle.sp_words.specs.declared.mnemonic.DataKind.TheVariants.{Bytes, Words}
use Rattle.sp_words.specs.declared.mnemonic.ExpressionKind.TheVariants as kind
use Rattle.sp_words.specs.declared.mnemonic.Load.TheVariants as load
use Rattle.sp_words.specs.declared.mnemonic.Mnemonic.{Mnemonic}
use Rattle.sp_words.specs.declared.mnemonic.Mnemonic.TheVariants.{Alone, Register, Pair, Stack, Move, Load, Expression, Data, Space, Org, Assignment, End}
use Rattle.sp_words.specs.declared.mnemonic.PairForm.TheVariants as pair
use Rattle.sp_words.specs.declared.mnemonic.RegisterForm.TheVariants as register
use Rattle.sp_words.specs.declared.mnemonic.StackForm.TheVariants as stack

-- a condition, after the J, C or R of a jump, call or return
abbrev pub condition_name : Cond → List ℕ
condition_name when.Nz = codes "NZ"
condition_name when.Z = codes "Z"
condition_name when.Nc = codes "NC"
condition_name when.C = codes "C"
condition_name when.Po = codes "PO"
condition_name when.Pe = codes "PE"
condition_name when.P = codes "P"
condition_name when.M = codes "M"

-- an operation on the accumulator and a register
abbrev pub operation_name : Op → List ℕ
operation_name op.Add = codes "ADD"
operation_name op.Adc = codes "ADC"
operation_name op.Sub = codes "SUB"
operation_name op.Sbb = codes "SBB"
operation_name op.Ana = codes "ANA"
operation_name op.Xra = codes "XRA"
operation_name op.Ora = codes "ORA"
operation_name op.Cmp = codes "CMP"

-- an operation on the accumulator and a byte
abbrev pub immediate_name : Op → List ℕ
immediate_name op.Add = codes "ADI"
immediate_name op.Adc = codes "ACI"
immediate_name op.Sub = codes "SUI"
immediate_name op.Sbb = codes "SBI"
immediate_name op.Ana = codes "ANI"
immediate_name op.Xra = codes "XRI"
immediate_name op.Ora = codes "ORI"
immediate_name op.Cmp = codes "CPI"

-- the mnemonic of an instruction
abbrev pub mnemonic_of : Instr → List ℕ
mnemonic_of (instr.Mov to from) = codes "MOV"
mnemonic_of (instr.Mvi to n) = codes "MVI"
mnemonic_of (instr.Inr y) = codes "INR"
mnemonic_of (instr.Dcr y) = codes "DCR"
mnemonic_of (instr.Alu o y) = operation_name o
mnemonic_of (instr.AluImmediate o n) = immediate_name o
mnemonic_of (instr.Lxi p w) = codes "LXI"
mnemonic_of (instr.Dad p) = codes "DAD"
mnemonic_of (instr.Inx p) = codes "INX"
mnemonic_of (instr.Dcx p) = codes "DCX"
mnemonic_of (instr.Stax p) = codes "STAX"
mnemonic_of (instr.Ldax p) = codes "LDAX"
mnemonic_of (instr.Shld w) = codes "SHLD"
mnemonic_of (instr.Lhld w) = codes "LHLD"
mnemonic_of (instr.Sta w) = codes "STA"
mnemonic_of (instr.Lda w) = codes "LDA"
mnemonic_of instr.Rlc = codes "RLC"
mnemonic_of instr.Rrc = codes "RRC"
mnemonic_of instr.Ral = codes "RAL"
mnemonic_of instr.Rar = codes "RAR"
mnemonic_of instr.Daa = codes "DAA"
mnemonic_of instr.Cma = codes "CMA"
mnemonic_of instr.Stc = codes "STC"
mnemonic_of instr.Cmc = codes "CMC"
mnemonic_of (instr.Push p) = codes "PUSH"
mnemonic_of (instr.Pop p) = codes "POP"
mnemonic_of (instr.Jmp w) = codes "JMP"
mnemonic_of (instr.Jcc when w) = codes "J" ++ condition_name when
mnemonic_of (instr.Call w) = codes "CALL"
mnemonic_of (instr.Ccc when w) = codes "C" ++ condition_name when
mnemonic_of instr.Ret = codes "RET"
mnemonic_of (instr.Rcc when) = codes "R" ++ condition_name when
mnemonic_of (instr.Rst n) = codes "RST"
mnemonic_of instr.Pchl = codes "PCHL"
mnemonic_of instr.Sphl = codes "SPHL"
mnemonic_of instr.Xthl = codes "XTHL"
mnemonic_of instr.Xchg = codes "XCHG"
mnemonic_of (instr.In n) = codes "IN"
mnemonic_of (instr.Out n) = codes "OUT"
mnemonic_of instr.Nop = codes "NOP"
mnemonic_of instr.Ei = codes "EI"
mnemonic_of instr.Di = codes "DI"
mnemonic_of instr.Hlt = codes "HLT"

-- the form of the operands of an instruction; a byte, word or restart number in it is left 0
abbrev pub form_of : Instr → Mnemonic
form_of (instr.Mov to from) = Move
form_of (instr.Mvi to n) = Load load.Byte
form_of (instr.Inr y) = Register register.Inr
form_of (instr.Dcr y) = Register register.Dcr
form_of (instr.Alu o y) = Register (register.Alu o)
form_of (instr.AluImmediate o n) = Expression kind.Byte (instr.AluImmediate o 0)
form_of (instr.Lxi p w) = Load load.Word
form_of (instr.Dad p) = Pair pair.Dad
form_of (instr.Inx p) = Pair pair.Inx
form_of (instr.Dcx p) = Pair pair.Dcx
form_of (instr.Stax p) = Pair pair.Stax
form_of (instr.Ldax p) = Pair pair.Ldax
form_of (instr.Shld w) = Expression kind.Word (instr.Shld 0)
form_of (instr.Lhld w) = Expression kind.Word (instr.Lhld 0)
form_of (instr.Sta w) = Expression kind.Word (instr.Sta 0)
form_of (instr.Lda w) = Expression kind.Word (instr.Lda 0)
form_of instr.Rlc = Alone instr.Rlc
form_of instr.Rrc = Alone instr.Rrc
form_of instr.Ral = Alone instr.Ral
form_of instr.Rar = Alone instr.Rar
form_of instr.Daa = Alone instr.Daa
form_of instr.Cma = Alone instr.Cma
form_of instr.Stc = Alone instr.Stc
form_of instr.Cmc = Alone instr.Cmc
form_of (instr.Push p) = Stack stack.Push
form_of (instr.Pop p) = Stack stack.Pop
form_of (instr.Jmp w) = Expression kind.Word (instr.Jmp 0)
form_of (instr.Jcc when w) = Expression kind.Word (instr.Jcc when 0)
form_of (instr.Call w) = Expression kind.Word (instr.Call 0)
form_of (instr.Ccc when w) = Expression kind.Word (instr.Ccc when 0)
form_of instr.Ret = Alone instr.Ret
form_of (instr.Rcc when) = Alone (instr.Rcc when)
form_of (instr.Rst n) = Expression kind.Restart (instr.Rst 0)
form_of instr.Pchl = Alone instr.Pchl
form_of instr.Sphl = Alone instr.Sphl
form_of instr.Xthl = Alone instr.Xthl
form_of instr.Xchg = Alone instr.Xchg
form_of (instr.In n) = Expression kind.Byte (instr.In 0)
form_of (instr.Out n) = Expression kind.Byte (instr.Out 0)
form_of instr.Nop = Alone instr.Nop
form_of instr.Ei = Alone instr.Ei
form_of instr.Di = Alone instr.Di
form_of instr.Hlt = Alone instr.Hlt

-- the name of a directive; instructions are none
abbrev pub directive_name : Mnemonic → Option (List ℕ)
directive_name (Data Bytes) = Some (codes "DB")
directive_name (Data Words) = Some (codes "DW")
directive_name Space = Some (codes "DS")
directive_name Org = Some (codes "ORG")
directive_name (Assignment Equ) = Some (codes "EQU")
directive_name (Assignment Set) = Some (codes "SET")
directive_name End = Some (codes "END")
directive_name _ = None

-- the word is the mnemonic of instructions of this form, or the name of this directive
pub data IsCalled (word : List ℕ) (m : Mnemonic) : Type 0 where
  instruction : (i : Instr) → word ≡ mnemonic_of i → m ≡ form_of i → IsCalled word m
  directive : directive_name m ≡ Some word → IsCalled word m
