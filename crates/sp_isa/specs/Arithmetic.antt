-- Arithmetic and logic on the accumulator (8080 manual, "Condition flags" and the groups of these instructions).
use Rattle.std.specs.Prelude.{ℕ, ◌+◌, ◌-◌, ◌*◌, ◌/◌, ◌%◌, Bool, not, ◌||◌, ◌==◌, nat_lt, nat_le, if◌then◌else◌}
use Rattle.std.specs.Int.RustNames.{bit_and, bit_or, bit_xor, count_ones}
use Rattle.sp_base.specs.declared.location.Reg.TheVariants as reg
use Rattle.sp_base.specs.declared.location.Loc.TheVariants as loc
use Rattle.sp_base.specs.declared.pair.Pair.{Pair}
use Rattle.sp_base.specs.declared.pair.Pair.TheVariants as pair
use Rattle.sp_isa.specs.declared.instr.Arg.{Arg}
use Rattle.sp_isa.specs.declared.instr.Op.{Op}
use Rattle.sp_isa.specs.declared.instr.Op.TheVariants as op
use Rattle.sp_isa.specs.Core.{Core, with_reg, with_flag}
use Rattle.sp_isa.specs.Operands.{pair_of, with_pair, arg_of, with_arg}

-- a flag is 1 where this holds, else 0
abbrev pub one_if : Bool → ℕ
one_if b = if b then 1 else 0

-- S, Z and P of a byte: bit 7 is 1; it is 0; it has an even number of ones
unfoldable pub with_szp : ℕ → Core → Core
with_szp r core =
    with_flag loc.S (one_if (nat_le 128 r)) (with_flag loc.Z (one_if (r == 0)) (with_flag loc.P (one_if (count_ones r % 2 == 0)) core))

-- A takes A plus a byte and a carry: CY is the carry out of bit 7, AC that out of bit 3
unfoldable pub add : ℕ → ℕ → Core → Core
add y carry core =
    let sum = core.a + y + carry in
    with_reg reg.A (sum % 256) (with_szp (sum % 256)
    (with_flag loc.Cy (one_if (nat_le 256 sum)) (with_flag loc.Ac (one_if (nat_le 16 (core.a % 16 + y % 16 + carry))) core)))

-- A minus a byte and a borrow
abbrev pub difference : ℕ → ℕ → Core → ℕ
difference y borrow core = (core.a + 256 - (y + borrow)) % 256

-- A stays, and the flags are those of A minus a byte and a borrow: CY is the borrow, and AC is 1 where the low digits have none
unfoldable pub compare : ℕ → ℕ → Core → Core
compare y borrow core =
    with_szp (difference y borrow core)
    (with_flag loc.Cy (one_if (nat_lt core.a (y + borrow))) (with_flag loc.Ac (one_if (nat_le (y % 16 + borrow) (core.a % 16))) core))

-- A takes A minus a byte and a borrow
unfoldable pub subtract : ℕ → ℕ → Core → Core
subtract y borrow core = with_reg reg.A (difference y borrow core) (compare y borrow core)

-- A takes a byte made of its bits and others: CY is 0
unfoldable pub logic : ℕ → ℕ → Core → Core
logic r ac core = with_reg reg.A r (with_szp r (with_flag loc.Cy 0 (with_flag loc.Ac ac core)))

-- bit 3 of a byte is 1
abbrev pub bit_three : ℕ → Bool
bit_three y = y / 8 % 2 == 1

-- an operation between A and a byte
unfoldable pub alu : Op → ℕ → Core → Core
alu op.Add y core = add y 0 core
alu op.Adc y core = add y core.cy core
alu op.Sub y core = subtract y 0 core
alu op.Sbb y core = subtract y core.cy core
alu op.Ana y core = logic (bit_and core.a y) (one_if (bit_three core.a || bit_three y)) core
alu op.Xra y core = logic (bit_xor core.a y) 0 core
alu op.Ora y core = logic (bit_or core.a y) 0 core
alu op.Cmp y core = compare y 0 core

-- an operand plus 1: AC is 1 exactly where the low digit of the result is 0, and CY stays
unfoldable pub increase : Arg → Core → Core
increase y core =
    let r = (arg_of y core + 1) % 256 in
    with_arg y r (with_szp r (with_flag loc.Ac (one_if (r % 16 == 0)) core))

-- an operand minus 1: AC is 1 exactly where the old low digit wasn't 0, and CY stays
unfoldable pub decrease : Arg → Core → Core
decrease y core =
    let r = (arg_of y core + 255) % 256 in
    with_arg y r (with_szp r (with_flag loc.Ac (one_if (not (arg_of y core % 16 == 0))) core))

-- HL plus a pair: CY is the carry out of bit 15
unfoldable pub add_pair : Pair → Core → Core
add_pair p core =
    let sum = pair_of pair.H core + pair_of p core in
    with_pair pair.H (sum % 65536) (with_flag loc.Cy (one_if (nat_le 65536 sum)) core)

-- the low digit of A is to be adjusted: it is over 9, or AC is 1
abbrev pub adjusts_low : Core → Bool
adjusts_low core = nat_lt 9 (core.a % 16) || (core.ac == 1)

-- the high digit of A is to be adjusted: A is over 99H, or CY is 1
abbrev pub adjusts_high : Core → Bool
adjusts_high core = nat_lt 0x99 core.a || (core.cy == 1)

-- DAA: A plus 6 where the low digit is to be adjusted, and plus 60H where the high one is, both looked at before
unfoldable pub adjust : Core → Core
adjust core =
    let six = 6 * one_if (adjusts_low core) in
    let r = (core.a + six + 0x60 * one_if (adjusts_high core)) % 256 in
    with_reg reg.A r (with_szp r
    (with_flag loc.Cy (one_if (adjusts_high core)) (with_flag loc.Ac (one_if (nat_le 16 (core.a % 16 + six))) core)))

-- A takes a byte, and CY a bit
unfoldable pub rotate : ℕ → ℕ → Core → Core
rotate r cy core = with_reg reg.A r (with_flag loc.Cy cy core)
