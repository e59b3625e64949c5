-- What registers and flags take.
use Rattle.std.proofs.Common.{◌≡◌, ◌∙◌, sym, subst, refl, ℕ, ◌+◌, ◌-◌, ◌*◌, ◌%◌, ◌<◌, ◌⊎◌, ◌↔◌, arith, get_or-set_same}
use Rattle.std.specs.Prelude.{◌||◌, slice_index, slice_set}
use Rattle.std.proofs.lemmas.Bool.Decides.{nat_tests}
use Rattle.std.proofs.lemmas.List.Elements.{All-get_or}
use Rattle.sp_base.specs.declared.location.Reg.{Reg}
use Rattle.sp_base.specs.declared.location.Reg.TheVariants as reg
use Rattle.sp_base.specs.declared.location.Loc.{Loc}
use Rattle.sp_base.specs.declared.location.Loc.TheVariants as loc
use Rattle.sp_base.specs.declared.pair.Pair.TheVariants as pair
use Rattle.sp_isa.specs.declared.instr.Arg.{Arg}
use Rattle.sp_isa.specs.declared.instr.Arg.TheVariants as arg
use Rattle.sp_isa.specs.Core.{Core, IsCore, IsFlag, with_reg, with_flag, with_cell, with_sp, with_pc, advance}
use Rattle.sp_isa.specs.Operands.{pair_of, with_pair, arg_of, with_arg}
use Rattle.sp_isa.specs.Arithmetic.{one_if, bit_three, with_szp, logic, alu}
use Rattle.sp_isa.specs.Stack.{push, flag_byte, push_pair, top_to, pop_pair, exchange_top, exchange_pairs}
use Rattle.sp_isa.specs.Effect.{effect}
use Rattle.sp_isa.specs.Sums.{ShowsResult}
use Rattle.sp_isa.specs.Moves.{Moves, Loads, Exchanges, HasBitThree, Operates, HasBits, FlagsAreAByte, PartsHaveRanges}
use Rattle.sp_isa.proofs.CoreLemmas.{low_arg, keep_reg, keep_flag, keep-with_cell, and_low, or_low, xor_low, flag_byte_low}
use Rattle.sp_isa.proofs.PartLemmas.{reg_of-at}
use Rattle.sp_isa.proofs.SumLemmas.{pair_of-with_pair, shows}
use Rattle.sp_isa.proofs.UndoLemmas.{word_pushed, high_of, low_of}

-- ---- moves and loads

arg_of-with_arg : (y : Arg) (v n : ℕ) (core : Core) → IsCore core → arg_of y (advance n (with_arg y v core)) ≡ v
unfolding with_arg with_cell with_reg advance with_pc
arg_of-with_arg arg.M v n core h = get_or-set_same core.cells (pair_of pair.H core % 65536) v 0 (let m = h.memory in omega arith)
arg_of-with_arg (arg.Reg reg.B) v n core h = refl
arg_of-with_arg (arg.Reg r) v n core h = refl

whole : (w : ℕ) → w < 65536 → w % 65536 ≡ w
whole w low = omega arith

pub moves : Moves
unfolding effect
moves input core h = (
  λ to from. arg_of-with_arg to (arg_of from core) 1 core h,
  λ to byte. arg_of-with_arg to byte 2 core h,
  λ p w low. pair_of-with_pair p w 3 core ∙ whole w low,
)

pub loads : Loads
unfolding effect exchange_top with_cell with_reg advance with_pc
loads input core h = (λ w. refl, λ p. refl, λ w. refl, refl, λ port. refl)

complement_sum : (a : ℕ) → a < 256 → 255 - a + a ≡ 255
complement_sum a low = omega arith

other_sum : (c : ℕ) → c < 2 → 1 - c + c ≡ 1
other_sum c low = omega arith

pub exchanges : Exchanges
unfolding effect exchange_pairs with_reg with_flag advance with_pc
exchanges input core h = (refl, refl, complement_sum core.a (h.locations loc.A), refl, other_sum core.cy (h.locations loc.Cy))

-- ---- logic

either_bit : (a y : ℕ) → (one_if (bit_three a || bit_three y) ≡ 1) ↔ (HasBitThree a ⊎ HasBitThree y)
either_bit a y = (λ h. grind (arith, nat_tests), λ h. grind (arith, nat_tests))

logic_shows : (n r c : ℕ) (core : Core) → r < 256 → ShowsResult r (advance n (logic r c core))
unfolding logic with_reg with_szp with_flag advance with_pc
logic_shows n r c core low = shows r _ low refl refl refl

pub operates : Operates
unfolding effect alu logic with_reg with_szp with_flag advance with_pc
operates = (
  λ input core h. (
    λ y. (refl, refl, either_bit core.a (arg_of y core), logic_shows 1 _ _ core (and_low core.a (arg_of y core) (low_arg y core h))),
    λ n low. (refl, refl, either_bit core.a n, logic_shows 2 _ _ core (and_low core.a n low)),
  ),
  λ input core h. (
    λ y. (refl, refl, refl, logic_shows 1 _ _ core (xor_low core.a (arg_of y core) (h.locations loc.A) (low_arg y core h))),
    λ n low. (refl, refl, refl, logic_shows 2 _ _ core (xor_low core.a n (h.locations loc.A) low)),
  ),
  λ input core h. (
    λ y. (refl, refl, refl, logic_shows 1 _ _ core (or_low core.a (arg_of y core) (h.locations loc.A) (low_arg y core h))),
    λ n low. (refl, refl, refl, logic_shows 2 _ _ core (or_low core.a n (h.locations loc.A) low)),
  ),
)

-- ---- the flags as a byte

flag_bits : (s z ac p cy : ℕ) → s < 2 → z < 2 → ac < 2 → p < 2 → cy < 2
    → HasBits (128 * s + 64 * z + 16 * ac + 4 * p + 2 + cy) s z 0 ac 0 p 1 cy
flag_bits s z ac p cy ls lz lac lp lcy = record {
  seven = omega arith;
  six = omega arith;
  five = omega arith;
  four = omega arith;
  three = omega arith;
  two = omega arith;
  one = omega arith;
  zero = omega arith;
}

pub flags_are_a_byte : FlagsAreAByte
unfolding effect push_pair push pop_pair top_to with_pair with_reg with_cell with_sp advance with_pc
flags_are_a_byte input core h =
    let e = word_pushed core.a (flag_byte core) core h in
    let low = flag_byte_low core h in
    let bits = flag_bits core.s core.z core.ac core.p core.cy (h.locations loc.S) (h.locations loc.Z) (h.locations loc.Ac) (h.locations loc.P) (h.locations loc.Cy) in (
      high_of _ core.a (flag_byte core) (h.locations loc.A) low e,
      subst (λ byte. HasBits byte core.s core.z 0 core.ac 0 core.p 1 core.cy) (sym (low_of _ core.a (flag_byte core) low e)) bits,
    )

-- ---- ranges

reg_low : (r : Reg) (v : ℕ) (core : Core) → IsCore (with_reg r v core) → v < 256
unfolding with_reg
reg_low reg.B v core h = h.locations loc.B
reg_low reg.C v core h = h.locations loc.C
reg_low reg.D v core h = h.locations loc.D
reg_low reg.E v core h = h.locations loc.E
reg_low reg.H v core h = h.locations loc.H
reg_low reg.L v core h = h.locations loc.L
reg_low reg.A v core h = h.locations loc.A

flag_low : (x : Loc) (v : ℕ) (core : Core) → IsFlag x → IsCore (with_flag x v core) → v < 2
unfolding with_flag
flag_low loc.S v core f h = h.locations loc.S
flag_low loc.Z v core f h = h.locations loc.Z
flag_low loc.Ac v core f h = h.locations loc.Ac
flag_low loc.P v core f h = h.locations loc.P
flag_low loc.Cy v core f h = h.locations loc.Cy
flag_low x v core f h = elim f [ ]

cell_low : (a v : ℕ) (core : Core) → IsCore core → IsCore (with_cell a v core) → v < 256
unfolding with_cell
cell_low a v core h g =
    let m = h.memory in
    let n = g.memory in
    let there : slice_index (slice_set core.cells (a % 65536) v) (a % 65536) ≡ v = get_or-set_same core.cells (a % 65536) v 0 (omega arith) in
    let byte : slice_index (slice_set core.cells (a % 65536) v) (a % 65536) < 256 = All-get_or (λ byte. byte < 256) (slice_set core.cells (a % 65536) v) (a % 65536) 0 (omega arith) g.bytes in
    omega arith

pub parts_have_ranges : PartsHaveRanges
parts_have_ranges core h = (
  λ r. reg_of-at r core,
  λ r v. (reg_low r v core, λ low. keep_reg r v core low h),
  λ x v f. (flag_low x v core f, λ low. keep_flag x v core f low h),
  λ a v. (cell_low a v core h, λ low. keep-with_cell a v core low h),
)
