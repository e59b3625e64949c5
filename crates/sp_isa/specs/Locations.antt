-- The registers and flags that an instruction reads and writes (8080 manual, the descriptions of the instructions).
use Rattle.std.specs.Prelude.{◌≡◌, ℕ, true, false}
use Rattle.sp_base.specs.declared.location.Reg.TheVariants as reg
use Rattle.sp_base.specs.declared.location.Loc.{Loc}
use Rattle.sp_base.specs.declared.location.Loc.TheVariants as loc
use Rattle.sp_base.specs.declared.pair.Pair.{Pair}
use Rattle.sp_base.specs.declared.pair.Pair.TheVariants as pair
use Rattle.sp_base.specs.declared.locs.Locs.{Locs}
use Rattle.sp_base.specs.Location.{loc_of}
use Rattle.sp_base.specs.Locs.{has, none, only, both}
use Rattle.sp_isa.specs.declared.instr.Arg.{Arg}
use Rattle.sp_isa.specs.declared.instr.Arg.TheVariants as arg
use Rattle.sp_isa.specs.declared.instr.StackPair.{StackPair}
use Rattle.sp_isa.specs.declared.instr.StackPair.TheVariants as stack
use Rattle.sp_isa.specs.declared.instr.Cond.{Cond}
use Rattle.sp_isa.specs.declared.instr.Cond.TheVariants as when
use Rattle.sp_isa.specs.declared.instr.Op.{Op}
use Rattle.sp_isa.specs.declared.instr.Op.TheVariants as op
use Rattle.sp_isa.specs.declared.instr.Instr.{Instr}
use Rattle.sp_isa.specs.declared.instr.Instr.TheVariants.{Mov, Mvi, Inr, Dcr, Alu, AluImmediate, Lxi, Dad, Inx, Dcx, Stax, Ldax, Shld, Lhld, Sta, Lda, Rlc, Rrc, Ral, Rar, Daa, Cma, Stc, Cmc, Pop, Jcc, Ccc, Rcc, Pchl, Sphl, Xthl, Xchg, In, Out}
use Rattle.sp_isa.specs.Core.{Core, at}
use Rattle.sp_isa.specs.Effect.{effect}

-- the registers of a pair; the stack pointer is no location
abbrev pub pair_locs : Pair → Locs
pair_locs pair.B = both (only loc.B) (only loc.C)
pair_locs pair.D = both (only loc.D) (only loc.E)
pair_locs pair.H = both (only loc.H) (only loc.L)
pair_locs pair.Sp = none

-- S, Z, P and AC
abbrev pub flags_but_carry : Locs
flags_but_carry = both (only loc.S) (both (only loc.Z) (both (only loc.P) (only loc.Ac)))

-- the five flags
abbrev pub all_flags : Locs
all_flags = both flags_but_carry (only loc.Cy)

-- what reading an operand reads: of M the address in HL
abbrev pub arg_reads : Arg → Locs
arg_reads (arg.Reg r) = only (loc_of r)
arg_reads arg.M = pair_locs pair.H

-- what writing an operand reads
abbrev pub address_reads : Arg → Locs
address_reads (arg.Reg r) = none
address_reads arg.M = pair_locs pair.H

-- what writing an operand writes: a cell is no location
abbrev pub arg_writes : Arg → Locs
arg_writes (arg.Reg r) = only (loc_of r)
arg_writes arg.M = none

-- the flag of a condition
abbrev pub cond_reads : Cond → Locs
cond_reads when.Nz = only loc.Z
cond_reads when.Z = only loc.Z
cond_reads when.Nc = only loc.Cy
cond_reads when.C = only loc.Cy
cond_reads when.Po = only loc.P
cond_reads when.Pe = only loc.P
cond_reads when.P = only loc.S
cond_reads when.M = only loc.S

-- what an operation between A and a byte reads besides the byte
abbrev pub op_reads : Op → Locs
op_reads op.Adc = both (only loc.A) (only loc.Cy)
op_reads op.Sbb = both (only loc.A) (only loc.Cy)
op_reads _ = only loc.A

-- what an operation between A and an operand reads: A minus A, A xor A, and A compared with A, are the same whatever A is
abbrev pub alu_reads : Op → Arg → Locs
alu_reads op.Sub (arg.Reg reg.A) = none
alu_reads op.Xra (arg.Reg reg.A) = none
alu_reads op.Cmp (arg.Reg reg.A) = none
alu_reads op.Sbb (arg.Reg reg.A) = only loc.Cy
alu_reads o y = both (op_reads o) (arg_reads y)

-- what an operation between A and a byte writes
abbrev pub op_writes : Op → Locs
op_writes op.Cmp = all_flags
op_writes _ = both (only loc.A) all_flags

-- what a POP writes
abbrev pub stack_writes : StackPair → Locs
stack_writes stack.B = pair_locs pair.B
stack_writes stack.D = pair_locs pair.D
stack_writes stack.H = pair_locs pair.H
stack_writes stack.Psw = both (only loc.A) all_flags

-- the registers and flags that an instruction reads. PUSH and XTHL only move bytes to the stack, and count as using nothing
abbrev pub reads : Instr → Locs
reads (Mov to from) = both (arg_reads from) (address_reads to)
reads (Mvi to _) = address_reads to
reads (Inr y) = arg_reads y
reads (Dcr y) = arg_reads y
reads (Alu o y) = alu_reads o y
reads (AluImmediate o _) = op_reads o
reads (Dad p) = both (pair_locs pair.H) (pair_locs p)
reads (Inx p) = pair_locs p
reads (Dcx p) = pair_locs p
reads (Stax p) = both (only loc.A) (pair_locs p)
reads (Ldax p) = pair_locs p
reads (Shld _) = pair_locs pair.H
reads (Sta _) = only loc.A
reads Rlc = only loc.A
reads Rrc = only loc.A
reads Ral = both (only loc.A) (only loc.Cy)
reads Rar = both (only loc.A) (only loc.Cy)
reads Daa = both (only loc.A) (both (only loc.Ac) (only loc.Cy))
reads Cma = only loc.A
reads Cmc = only loc.Cy
reads (Jcc when _) = cond_reads when
reads (Ccc when _) = cond_reads when
reads (Rcc when) = cond_reads when
reads Pchl = pair_locs pair.H
reads Sphl = pair_locs pair.H
reads Xchg = both (pair_locs pair.H) (pair_locs pair.D)
reads (Out _) = only loc.A
reads _ = none

-- the registers and flags that an instruction writes
abbrev pub writes : Instr → Locs
writes (Mov to _) = arg_writes to
writes (Mvi to _) = arg_writes to
writes (Inr y) = both (arg_writes y) flags_but_carry
writes (Dcr y) = both (arg_writes y) flags_but_carry
writes (Alu o _) = op_writes o
writes (AluImmediate o _) = op_writes o
writes (Lxi p _) = pair_locs p
writes (Dad _) = both (pair_locs pair.H) (only loc.Cy)
writes (Inx p) = pair_locs p
writes (Dcx p) = pair_locs p
writes (Ldax _) = only loc.A
writes (Lhld _) = pair_locs pair.H
writes (Lda _) = only loc.A
writes Rlc = both (only loc.A) (only loc.Cy)
writes Rrc = both (only loc.A) (only loc.Cy)
writes Ral = both (only loc.A) (only loc.Cy)
writes Rar = both (only loc.A) (only loc.Cy)
writes Daa = both (only loc.A) all_flags
writes Cma = only loc.A
writes Stc = only loc.Cy
writes Cmc = only loc.Cy
writes (Pop p) = stack_writes p
writes Xthl = pair_locs pair.H
writes Xchg = both (pair_locs pair.H) (pair_locs pair.D)
writes (In _) = only loc.A
writes _ = none

-- no instruction changes another register or flag than those that it writes
abbrev pub ChangesOnlyWrites : Type 0
ChangesOnlyWrites =
    (input : ℕ) (i : Instr) (core : Core) (x : Loc) → has x (writes i) ≡ false → at x (effect input i core) ≡ at x core

-- two cores have the same in these locations
abbrev pub Agrees : Locs → Core → Core → Type 0
Agrees locs one two = (x : Loc) → has x locs ≡ true → at x one ≡ at x two

-- two cores have the same in these locations, in memory, in the stack pointer and in the program counter
pub record IsAlike (locs : Locs) (one two : Core) : Type 0 where
  pub locations : Agrees locs one two
  pub cells : one.cells ≡ two.cells
  pub sp : one.sp ≡ two.sp
  pub pc : one.pc ≡ two.pc

-- what an instruction writes depends on what it reads, on memory and on the two counters alone
abbrev pub DependsOnlyOnReads : Type 0
DependsOnlyOnReads =
    (input : ℕ) (i : Instr) (one two : Core) → IsAlike (reads i) one two → Agrees (writes i) (effect input i one) (effect input i two)
