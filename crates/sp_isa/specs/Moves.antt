-- What registers and flags take (8080 manual, the descriptions of the instructions): moves, loads, logic and the flags as
-- a byte. It follows from the effects; what goes to memory is said by the outcomes.
use Rattle.std.specs.Prelude.{◌≡◌, ℕ, ◌+◌, ◌*◌, ◌/◌, ◌%◌, ◌<◌, ◌⊎◌, ◌↔◌, bit_and, bit_or, bit_xor}
use Rattle.sp_base.specs.declared.location.Reg.{Reg}
use Rattle.sp_base.specs.declared.location.Loc.{Loc}
use Rattle.sp_base.specs.declared.pair.Pair.{Pair}
use Rattle.sp_base.specs.declared.pair.Pair.TheVariants as pair
use Rattle.sp_base.specs.Location.{loc_of}
use Rattle.sp_isa.specs.declared.instr.Arg.{Arg}
use Rattle.sp_isa.specs.declared.instr.StackPair.TheVariants as stack
use Rattle.sp_isa.specs.declared.instr.Op.TheVariants as op
use Rattle.sp_isa.specs.declared.instr.Instr.TheVariants.{Mov, Mvi, Lxi, Ldax, Lhld, Lda, Cma, Stc, Cmc, Push, Pop, Xthl, Xchg, In}
use Rattle.sp_isa.specs.Core.{Core, IsCore, IsFlag, at, reg_of, cell, with_reg, with_flag, with_cell}
use Rattle.sp_isa.specs.Operands.{pair_of, arg_of}
use Rattle.sp_isa.specs.Effect.{effect}
use Rattle.sp_isa.specs.Sums.{Always, ShowsResult}

-- MOV and MVI: the first operand takes the second; LXI: the pair takes the word
abbrev pub Moves : Type 0
Moves =
    (input : ℕ) (core : Core) → IsCore core
    → ((to from : Arg) → arg_of to (effect input (Mov to from) core) ≡ arg_of from core)
    × ((to : Arg) (byte : ℕ) → arg_of to (effect input (Mvi to byte) core) ≡ byte)
    × ((p : Pair) (w : ℕ) → w < 65536 → pair_of p (effect input (Lxi p w) core) ≡ w)

-- LDA and LDAX: A takes a cell; LHLD and XTHL: HL takes a word, its low byte first; IN: A takes the input
abbrev pub Loads : Type 0
Loads =
    (input : ℕ) (core : Core) → IsCore core
    → ((w : ℕ) → (effect input (Lda w) core).a ≡ cell w core)
    × ((p : Pair) → (effect input (Ldax p) core).a ≡ cell (pair_of p core) core)
    × ((w : ℕ) → pair_of pair.H (effect input (Lhld w) core) ≡ 256 * cell (w + 1) core + cell w core)
    × (pair_of pair.H (effect input Xthl core) ≡ 256 * cell (core.sp + 1) core + cell core.sp core)
    × ((port : ℕ) → (effect input (In port) core).a ≡ input)

-- XCHG exchanges DE and HL; CMA turns each bit of A over; STC makes CY 1, and CMC the other of 0 and 1
abbrev pub Exchanges : Type 0
Exchanges =
    (input : ℕ) (core : Core) → IsCore core
    → (pair_of pair.H (effect input Xchg core) ≡ pair_of pair.D core)
    × (pair_of pair.D (effect input Xchg core) ≡ pair_of pair.H core)
    × ((effect input Cma core).a + core.a ≡ 255)
    × ((effect input Stc core).cy ≡ 1)
    × ((effect input Cmc core).cy + core.cy ≡ 1)

-- bit 3 of a byte is 1
abbrev pub HasBitThree : ℕ → Type 0
HasBitThree byte = byte / 8 % 2 ≡ 1

-- ANA, XRA and ORA, and ANI, XRI and ORI: CY is 0; AC is 0, but after ANA that of bit 3 of A or of the byte
abbrev pub Operates : Type 0
Operates =
    Always op.Ana (λ byte old new. (new.a ≡ bit_and old.a byte) × (new.cy ≡ 0) × ((new.ac ≡ 1) ↔ (HasBitThree old.a ⊎ HasBitThree byte)) × ShowsResult new.a new)
    × Always op.Xra (λ byte old new. (new.a ≡ bit_xor old.a byte) × (new.cy ≡ 0) × (new.ac ≡ 0) × ShowsResult new.a new)
    × Always op.Ora (λ byte old new. (new.a ≡ bit_or old.a byte) × (new.cy ≡ 0) × (new.ac ≡ 0) × ShowsResult new.a new)

-- the eight bits of a byte, from bit 7 to bit 0
pub record HasBits (byte b7 b6 b5 b4 b3 b2 b1 b0 : ℕ) : Type 0 where
  pub seven : byte / 128 ≡ b7
  pub six : byte / 64 % 2 ≡ b6
  pub five : byte / 32 % 2 ≡ b5
  pub four : byte / 16 % 2 ≡ b4
  pub three : byte / 8 % 2 ≡ b3
  pub two : byte / 4 % 2 ≡ b2
  pub one : byte / 2 % 2 ≡ b1
  pub zero : byte % 2 ≡ b0

-- PUSH PSW puts A and, below it, the flags onto the stack: S Z 0 AC 0 P 1 CY. POP B shows them
abbrev pub FlagsAreAByte : Type 0
FlagsAreAByte =
    (input : ℕ) (core : Core) → IsCore core
    → let popped = effect input (Pop stack.B) (effect input (Push stack.Psw) core) in
    (popped.b ≡ core.a) × HasBits popped.c core.s core.z 0 core.ac 0 core.p 1 core.cy

-- a register's location has its byte, and bytes, flags and cells have the ranges 0 to 255, 0 to 1 and 0 to 255
abbrev pub PartsHaveRanges : Type 0
PartsHaveRanges =
    (core : Core) → IsCore core
    → ((r : Reg) → reg_of r core ≡ at (loc_of r) core)
    × ((r : Reg) (v : ℕ) → IsCore (with_reg r v core) ↔ (v < 256))
    × ((x : Loc) (v : ℕ) → IsFlag x → IsCore (with_flag x v core) ↔ (v < 2))
    × ((a v : ℕ) → IsCore (with_cell a v core) ↔ (v < 256))
