-- How three bytes decode, by the fields of the first byte.
use Rattle.std.specs.Prelude.{◌≡◌, ℕ, ◌+◌, ◌*◌, ◌/◌, ◌%◌, ◌<◌, List, [], ◌∷◌, ◌++◌, Option, Some, None, ◌↔◌, IsTrue, if◌then◌else◌, ◌==◌, length, slice_index, Contains}
use Rattle.std.specs.Option.{option_map}
use Rattle.sp_base.specs.declared.location.Reg.TheVariants as reg
use Rattle.sp_base.specs.declared.pair.Pair.{Pair}
use Rattle.sp_base.specs.declared.pair.Pair.TheVariants as pair
use Rattle.sp_isa.specs.declared.instr.Arg.{Arg}
use Rattle.sp_isa.specs.declared.instr.Arg.TheVariants as arg
use Rattle.sp_isa.specs.declared.instr.StackPair.{StackPair}
use Rattle.sp_isa.specs.declared.instr.StackPair.TheVariants as stack
use Rattle.sp_isa.specs.declared.instr.Cond.{Cond}
use Rattle.sp_isa.specs.declared.instr.Cond.TheVariants as when
use Rattle.sp_isa.specs.declared.instr.Op.{Op}
use Rattle.sp_isa.specs.declared.instr.Op.TheVariants as op
use Rattle.sp_isa.specs.declared.instr.Instr.{Instr}
use Rattle.sp_isa.specs.declared.instr.Instr.TheVariants.{Mov, Mvi, Inr, Dcr, Alu, AluImmediate, Lxi, Dad, Inx, Dcx, Stax, Ldax, Shld, Lhld, Sta, Lda, Rlc, Rrc, Ral, Rar, Daa, Cma, Stc, Cmc, Push, Pop, Jmp, Jcc, Call, Ccc, Ret, Rcc, Rst, Pchl, Sphl, Xthl, Xchg, In, Out, Nop, Ei, Di, Hlt}
use Rattle.sp_isa.specs.Code.{valid, Begins, code}

-- one of eight values, by a number below 8
abbrev pub one_of : {X : Type 0} → ℕ → X → X → X → X → X → X → X → X → X
one_of n x0 x1 x2 x3 x4 x5 x6 x7 =
    if n == 0 then x0 else (if n == 1 then x1 else (if n == 2 then x2 else (if n == 3 then x3 else
    (if n == 4 then x4 else (if n == 5 then x5 else (if n == 6 then x6 else x7))))))

-- one of four values, by a number below 4
abbrev pub one_of_four : {X : Type 0} → ℕ → X → X → X → X → X
one_of_four n x0 x1 x2 x3 = if n == 0 then x0 else (if n == 1 then x1 else (if n == 2 then x2 else x3))

-- the operand of a code
abbrev pub coded_arg : ℕ → Arg
coded_arg n = one_of n (arg.Reg reg.B) (arg.Reg reg.C) (arg.Reg reg.D) (arg.Reg reg.E) (arg.Reg reg.H) (arg.Reg reg.L) arg.M (arg.Reg reg.A)

-- the register pair of a code
abbrev pub coded_pair : ℕ → Pair
coded_pair n = one_of_four n pair.B pair.D pair.H pair.Sp

-- the pair that is pushed or popped of a code
abbrev pub coded_stack : ℕ → StackPair
coded_stack n = one_of_four n stack.B stack.D stack.H stack.Psw

-- the condition of a code
abbrev pub coded_cond : ℕ → Cond
coded_cond n = one_of n when.Nz when.Z when.Nc when.C when.Po when.Pe when.P when.M

-- the operation of a code
abbrev pub coded_op : ℕ → Op
coded_op n = one_of n op.Add op.Adc op.Sub op.Sbb op.Ana op.Xra op.Ora op.Cmp

-- the first bytes 00yyy010
abbrev pub coded_load : ℕ → Instr
coded_load y = one_of y (Stax pair.B) (Ldax pair.B) (Stax pair.D) (Ldax pair.D) (Shld 0) (Lhld 0) (Sta 0) (Lda 0)

-- the first bytes 00yyy111
abbrev pub coded_accumulator : ℕ → Instr
coded_accumulator y = one_of y Rlc Rrc Ral Rar Daa Cma Stc Cmc

-- a register pair's instruction, by whether its code is even or odd
abbrev pub by_parity : ℕ → Instr → Instr → Instr
by_parity y even odd = if y % 2 == 0 then even else odd

-- the instruction of a first byte 00yyyzzz, if there is one, its operand bytes 0
abbrev pub coded_low : ℕ → ℕ → Option Instr
coded_low y z =
    if z == 0 then (if y == 0 then Some Nop else None) else Some (one_of z Nop (by_parity y (Lxi (coded_pair (y / 2)) 0) (Dad (coded_pair (y / 2)))) (coded_load y)
    (by_parity y (Inx (coded_pair (y / 2))) (Dcx (coded_pair (y / 2)))) (Inr (coded_arg y)) (Dcr (coded_arg y)) (Mvi (coded_arg y) 0) (coded_accumulator y))

-- the first bytes 11yyy001
abbrev pub coded_pop : ℕ → Option Instr
coded_pop y = if y % 2 == 0 then Some (Pop (coded_stack (y / 2))) else one_of_four (y / 2) (Some Ret) None (Some Pchl) (Some Sphl)

-- the first bytes 11yyy011
abbrev pub coded_jump : ℕ → Option Instr
coded_jump y = one_of y (Some (Jmp 0)) None (Some (Out 0)) (Some (In 0)) (Some Xthl) (Some Xchg) (Some Di) (Some Ei)

-- the first bytes 11yyy101
abbrev pub coded_push : ℕ → Option Instr
coded_push y = if y % 2 == 0 then Some (Push (coded_stack (y / 2))) else (if y == 1 then Some (Call 0) else None)

-- the instruction of a first byte 11yyyzzz, if there is one, its operand bytes 0
abbrev pub coded_high : ℕ → ℕ → Option Instr
coded_high y z =
    one_of z (Some (Rcc (coded_cond y))) (coded_pop y) (Some (Jcc (coded_cond y) 0)) (coded_jump y)
    (Some (Ccc (coded_cond y) 0)) (coded_push y) (Some (AluImmediate (coded_op y) 0)) (Some (Rst y))

-- the instruction of a first byte 01yyyzzz
abbrev pub coded_move : ℕ → ℕ → Instr
coded_move y z = if y == 6 then (if z == 6 then Hlt else Mov (coded_arg y) (coded_arg z)) else Mov (coded_arg y) (coded_arg z)

-- the instruction of a first byte, if there is one, its operand bytes 0
unfoldable pub form : ℕ → Option Instr
form b =
    one_of_four (b / 64) (coded_low (b / 8 % 8) (b % 8)) (Some (coded_move (b / 8 % 8) (b % 8)))
    (Some (Alu (coded_op (b / 8 % 8)) (coded_arg (b % 8)))) (coded_high (b / 8 % 8) (b % 8))

-- an instruction with its operand from the next byte, or from the word of the next two, and its length
abbrev pub with_operand : ℕ → ℕ → Instr → Instr × ℕ
with_operand byte word (Mvi y _) = (Mvi y byte, 2)
with_operand byte word (AluImmediate o _) = (AluImmediate o byte, 2)
with_operand byte word (In _) = (In byte, 2)
with_operand byte word (Out _) = (Out byte, 2)
with_operand byte word (Lxi p _) = (Lxi p word, 3)
with_operand byte word (Shld _) = (Shld word, 3)
with_operand byte word (Lhld _) = (Lhld word, 3)
with_operand byte word (Sta _) = (Sta word, 3)
with_operand byte word (Lda _) = (Lda word, 3)
with_operand byte word (Jmp _) = (Jmp word, 3)
with_operand byte word (Jcc when _) = (Jcc when word, 3)
with_operand byte word (Call _) = (Call word, 3)
with_operand byte word (Ccc when _) = (Ccc when word, 3)
with_operand byte word i = (i, 1)

-- the instruction that three bytes begin with, and its length
unfoldable pub decode : ℕ → ℕ → ℕ → Option (Instr × ℕ)
decode b0 b1 b2 = option_map (with_operand b1 (b1 + 256 * b2)) (form b0)

-- the first bytes that no instruction has
abbrev pub unused : List ℕ
unused = 0x08 ∷ 0x10 ∷ 0x18 ∷ 0x20 ∷ 0x28 ∷ 0x30 ∷ 0x38 ∷ 0xCB ∷ 0xD9 ∷ 0xDD ∷ 0xED ∷ 0xFD ∷ []

-- nothing decodes exactly where the first byte is one of these
abbrev pub NothingDecodes : Type 0
NothingDecodes = (b0 b1 b2 : ℕ) → b0 < 256 → (decode b0 b1 b2 ≡ None) ↔ Contains unused b0

-- the table: three bytes begin with a valid instruction exactly where it is decoded from them, with its length
abbrev pub DecodesTheTable : Type 0
DecodesTheTable =
    (b0 b1 b2 : ℕ) → b0 < 256 → b1 < 256 → b2 < 256 → (i : Instr) (n : ℕ)
    → (IsTrue (valid i) × Begins b0 b1 b2 i n) ↔ (decode b0 b1 b2 ≡ Some (i, n))

-- what the first three bytes of a list decode to
abbrev pub decode_front : List ℕ → Option (Instr × ℕ)
decode_front bytes = decode (slice_index bytes 0) (slice_index bytes 1) (slice_index bytes 2)

-- a valid instruction's code, followed by anything, gives it back with its length
abbrev pub DecodesCodes : Type 0
DecodesCodes = (i : Instr) → IsTrue (valid i) → (rest : List ℕ) → decode_front (code i ++ rest) ≡ Some (i, length (code i))

-- no valid instruction's code begins another's
abbrev pub NoCodeBeginsAnother : Type 0
NoCodeBeginsAnother = (i j : Instr) (rest : List ℕ) → IsTrue (valid i) → IsTrue (valid j) → code i ++ rest ≡ code j → i ≡ j
