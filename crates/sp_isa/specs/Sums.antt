-- What arithmetic comes to, in numbers (8080 manual, "Condition flags" and the descriptions of the instructions): the
-- result and the flags that the effects leave are the digits of a sum, whatever steps the effects take to find them.
use Rattle.std.specs.Prelude.{◌≡◌, ℕ, ◌+◌, ◌*◌, ◌/◌, ◌%◌, ◌<◌, ◌↔◌}
use Rattle.sp_base.specs.declared.pair.Pair.{Pair}
use Rattle.sp_base.specs.declared.pair.Pair.TheVariants as pair
use Rattle.sp_isa.specs.declared.instr.Arg.{Arg}
use Rattle.sp_isa.specs.declared.instr.Op.{Op}
use Rattle.sp_isa.specs.declared.instr.Op.TheVariants as op
use Rattle.sp_isa.specs.declared.instr.Instr.TheVariants.{Inr, Dcr, Alu, AluImmediate, Dad, Inx, Dcx, Rlc, Rrc, Ral, Rar, Daa}
use Rattle.sp_isa.specs.Core.{Core, IsCore}
use Rattle.sp_isa.specs.Operands.{pair_of, arg_of}
use Rattle.sp_isa.specs.Effect.{effect}

-- how many of the eight bits of a byte are 1
abbrev pub bits_set : ℕ → ℕ
bits_set r = r % 2 + r / 2 % 2 + r / 4 % 2 + r / 8 % 2 + r / 16 % 2 + r / 32 % 2 + r / 64 % 2 + r / 128

-- S is bit 7 of a result, Z is 1 exactly where it is 0, and P is 1 exactly where the number of its ones is even
pub record ShowsResult (r : ℕ) (core : Core) : Type 0 where
  pub sign : core.s ≡ r / 128
  pub zero : (core.z ≡ 1) ↔ (r ≡ 0)
  pub parity : (core.p ≡ 1) ↔ (bits_set r % 2 ≡ 0)

-- CY and A are the sum of A, a byte and a carry; AC and A's low digit are that of their low digits
pub record HasSum (byte carry : ℕ) (old new : Core) : Type 0 where
  pub sum : 256 * new.cy + new.a ≡ old.a + byte + carry
  pub low_digits : 16 * new.ac + new.a % 16 ≡ old.a % 16 + byte % 16 + carry
  pub shown : ShowsResult new.a new

-- a result, a byte and a borrow make up A, with 256 borrowed where CY is 1; so do the low digits, with 16 borrowed
-- where AC is 0
pub record HasDifference (byte borrow result : ℕ) (old new : Core) : Type 0 where
  pub difference : result + byte + borrow ≡ old.a + 256 * new.cy
  pub within : result < 256
  pub low_digits : result % 16 + byte % 16 + borrow + 16 * new.ac ≡ old.a % 16 + 16
  pub shown : ShowsResult result new

-- what holds of the byte and of the cores before and after, for every instruction of an operation: that with an operand
-- and that with a byte after its opcode
abbrev pub Always : Op → (ℕ → Core → Core → Type 0) → Type 0
Always o Claim =
    (input : ℕ) (core : Core) → IsCore core
    → ((y : Arg) → Claim (arg_of y core) core (effect input (Alu o y) core))
    × ((n : ℕ) → n < 256 → Claim n core (effect input (AluImmediate o n) core))

-- ADD and ADI; ADC and ACI
abbrev pub Adds : Type 0
Adds = Always op.Add (λ byte old new. HasSum byte 0 old new) × Always op.Adc (λ byte old new. HasSum byte old.cy old new)

-- SUB and SUI; SBB and SBI
abbrev pub Subtracts : Type 0
Subtracts =
    Always op.Sub (λ byte old new. HasDifference byte 0 new.a old new)
    × Always op.Sbb (λ byte old new. HasDifference byte old.cy new.a old new)

-- CMP and CPI: A stays, and the flags are those of the difference
abbrev pub Compares : Type 0
Compares = Always op.Cmp (λ byte old new. (new.a ≡ old.a) × ((result : ℕ) × HasDifference byte 0 result old new))

-- INR: 1 more, 0 after 255; AC carries out of the low digit, and CY stays
pub record HasOneMore (byte next : ℕ) (old new : Core) : Type 0 where
  pub result : next ≡ (byte + 1) % 256
  pub low_digits : 16 * new.ac + next % 16 ≡ byte % 16 + 1
  pub carry : new.cy ≡ old.cy
  pub shown : ShowsResult next new

-- DCR: 1 less, 255 before 0; AC is 0 where the low digit borrows, and CY stays
pub record HasOneLess (byte next : ℕ) (old new : Core) : Type 0 where
  pub result : (next + 1) % 256 ≡ byte
  pub within : next < 256
  pub low_digits : next % 16 + 1 + 16 * new.ac ≡ byte % 16 + 16
  pub carry : new.cy ≡ old.cy
  pub shown : ShowsResult next new

-- INR and DCR, of registers and of M
abbrev pub CountsByOne : Type 0
CountsByOne =
    (input : ℕ) (y : Arg) (core : Core) → IsCore core
    → (let new = effect input (Inr y) core in HasOneMore (arg_of y core) (arg_of y new) core new)
    × (let new = effect input (Dcr y) core in HasOneLess (arg_of y core) (arg_of y new) core new)

-- DAD: CY and HL are the sum of HL and a pair
abbrev pub AddsPairs : Type 0
AddsPairs =
    (input : ℕ) (p : Pair) (core : Core) → IsCore core
    → let new = effect input (Dad p) core in 65536 * new.cy + pair_of pair.H new ≡ pair_of pair.H core + pair_of p core

-- INX and DCX: 1 more and 1 less, modulo 65,536
abbrev pub CountsPairsByOne : Type 0
CountsPairsByOne =
    (input : ℕ) (p : Pair) (core : Core) → IsCore core
    → (pair_of p (effect input (Inx p) core) ≡ (pair_of p core + 1) % 65536)
    × ((pair_of p (effect input (Dcx p) core) + 1) % 65536 ≡ pair_of p core)

-- two decimal digits in a byte, and the number that they stand for
abbrev pub IsDecimal : ℕ → Type 0
IsDecimal byte = (byte / 16 < 10) × (byte % 16 < 10)

abbrev pub decimal : ℕ → ℕ
decimal byte = 10 * (byte / 16) + byte % 16

-- after an addition of bytes of decimal digits, DAA makes CY and A the digits of the decimal sum
abbrev pub HasDecimalSum : ℕ → ℕ → Core → Core → Type 0
HasDecimalSum byte carry old added =
    (input : ℕ) → IsDecimal old.a → IsDecimal byte
    → let new = effect input Daa added in IsDecimal new.a × (100 * new.cy + decimal new.a ≡ decimal old.a + decimal byte + carry)

-- DAA after ADD and ADI, and after ADC and ACI
abbrev pub AddsDecimals : Type 0
AddsDecimals =
    Always op.Add (λ byte old new. HasDecimalSum byte 0 old new) × Always op.Adc (λ byte old new. HasDecimalSum byte old.cy old new)

-- rotates: RLC and RAL double A, RRC and RAR halve it. CY takes the bit that leaves A; the bit that comes in is that one
-- (RLC, RRC) or CY (RAL, RAR)
abbrev pub Rotates : Type 0
Rotates =
    (input : ℕ) (core : Core) → IsCore core
    → (let new = effect input Rlc core in 256 * new.cy + new.a ≡ 2 * core.a + new.cy)
    × (let new = effect input Rrc core in 2 * new.a + new.cy ≡ core.a + 256 * new.cy)
    × (let new = effect input Ral core in 256 * new.cy + new.a ≡ 2 * core.a + core.cy)
    × (let new = effect input Rar core in 2 * new.a + new.cy ≡ core.a + 256 * core.cy)
