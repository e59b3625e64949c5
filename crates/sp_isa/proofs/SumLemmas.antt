-- Arithmetic comes to sums.
use Rattle.std.proofs.Common.{◌≡◌, ◌∙◌, sym, ap, subst, refl, ℕ, ◌+◌, ◌-◌, ◌*◌, ◌/◌, ◌%◌, ◌<◌, ◌↔◌, not, lit<, arith, get_or-set_same}
use Rattle.std.specs.Prelude.{◌||◌, ◌==◌, nat_lt, nat_le}
use Rattle.std.specs.Int.RustNames.{count_ones}
use Rattle.std.proofs.lemmas.Bool.Decides.{nat_tests}
use lib.Count.{ones_step}
use Rattle.sp_base.specs.declared.location.Reg.TheVariants as reg
use Rattle.sp_base.specs.declared.location.Loc.TheVariants as loc
use Rattle.sp_base.specs.declared.pair.Pair.{Pair}
use Rattle.sp_base.specs.declared.pair.Pair.TheVariants as pair
use Rattle.sp_isa.specs.declared.instr.Arg.{Arg}
use Rattle.sp_isa.specs.declared.instr.Arg.TheVariants as arg
use Rattle.sp_isa.specs.Core.{Core, IsCore, with_reg, with_flag, with_cell, with_sp, with_pc, advance}
use Rattle.sp_isa.specs.Operands.{pair_of, with_pair, arg_of, with_arg}
use Rattle.sp_isa.specs.Arithmetic.{one_if, with_szp, add, difference, compare, subtract, alu, increase, decrease, add_pair, adjust, rotate}
use Rattle.sp_isa.specs.Effect.{effect}
use Rattle.sp_isa.specs.Sums.{bits_set, ShowsResult, HasSum, HasDifference, Adds, Subtracts, Compares, HasOneMore, HasOneLess, CountsByOne, AddsPairs, CountsPairsByOne, IsDecimal, decimal, HasDecimalSum, AddsDecimals, Rotates}
use Rattle.sp_isa.proofs.CoreLemmas.{low_arg}

-- ---- bits and flags of a byte

-- the ones of a byte, counted digit by digit
ones_of_byte : (r : ℕ) → r < 256 → count_ones r ≡ bits_set r
unfolding count_ones
ones_of_byte r low =
    let e0 = ones_step r in let e1 = ones_step (r / 2) in let e2 = ones_step (r / 2 / 2) in let e3 = ones_step (r / 2 / 2 / 2) in
    let e4 = ones_step (r / 2 / 2 / 2 / 2) in let e5 = ones_step (r / 2 / 2 / 2 / 2 / 2) in let e6 = ones_step (r / 2 / 2 / 2 / 2 / 2 / 2) in
    let e7 = ones_step (r / 2 / 2 / 2 / 2 / 2 / 2 / 2) in
    let none : r / 2 / 2 / 2 / 2 / 2 / 2 / 2 / 2 ≡ 0 = omega arith in
    let e8 : count_ones (r / 2 / 2 / 2 / 2 / 2 / 2 / 2 / 2) ≡ 0 = ap count_ones none in
    omega arith

one_if_eq : (m n : ℕ) → (one_if (m == n) ≡ 1) ↔ (m ≡ n)
one_if_eq m n = (λ h. grind (arith, nat_tests), λ h. grind (arith, nat_tests))

sign_bit : (r : ℕ) → r < 256 → one_if (nat_le 128 r) ≡ r / 128
sign_bit r low = grind (arith, nat_tests)

parity_bit : (r : ℕ) → r < 256 → (one_if (count_ones r % 2 == 0) ≡ 1) ↔ (bits_set r % 2 ≡ 0)
parity_bit r low = rw (ones_of_byte r low) (one_if_eq (bits_set r % 2) 0)

-- ---- sums and differences of bytes

carry_of : (sum : ℕ) → sum < 512 → 256 * one_if (nat_le 256 sum) + sum % 256 ≡ sum
carry_of sum low = grind (arith, nat_tests)

half_carry_of : (a y c : ℕ) → c < 2 → 16 * one_if (nat_le 16 (a % 16 + y % 16 + c)) + (a + y + c) % 256 % 16 ≡ a % 16 + y % 16 + c
half_carry_of a y c low = grind (arith, nat_tests)

borrow_of : (a y b : ℕ) → a < 256 → y < 256 → b < 2 → (a + 256 - (y + b)) % 256 + y + b ≡ a + 256 * one_if (nat_lt a (y + b))
borrow_of a y b low lowy lowb = grind (arith, nat_tests)

half_borrow_of : (a y b : ℕ) → a < 256 → y < 256 → b < 2
    → (a + 256 - (y + b)) % 256 % 16 + y % 16 + b + 16 * one_if (nat_le (y % 16 + b) (a % 16)) ≡ a % 16 + 16
half_borrow_of a y b low lowy lowb = grind (arith, nat_tests)

-- ---- ADD, ADC, SUB, SBB, CMP

pub shows : (r : ℕ) (core : Core) → r < 256 → core.s ≡ one_if (nat_le 128 r) → core.z ≡ one_if (r == 0) → core.p ≡ one_if (count_ones r % 2 == 0) → ShowsResult r core
shows r core low s z p = record {
  sign = s ∙ sign_bit r low;
  zero = subst (λ v. (v ≡ 1) ↔ (r ≡ 0)) (sym z) (one_if_eq r 0);
  parity = subst (λ v. (v ≡ 1) ↔ (bits_set r % 2 ≡ 0)) (sym p) (parity_bit r low);
}

byte_of : (v : ℕ) → v % 256 < 256
byte_of v = omega arith

has_sum : (n y c : ℕ) (core : Core) → IsCore core → y < 256 → c < 2 → HasSum y c core (advance n (add y c core))
unfolding add with_reg with_szp with_flag advance with_pc
has_sum n y c core h lowy lowc =
    let low : core.a < 256 = h.locations loc.A in
    record {
      sum = carry_of (core.a + y + c) (omega arith);
      low_digits = half_carry_of core.a y c lowc;
      shown = shows ((core.a + y + c) % 256) _ (byte_of (core.a + y + c)) refl refl refl;
    }

pub adds : Adds
unfolding effect alu
adds = (
  λ input core h. (λ y. has_sum 1 (arg_of y core) 0 core h (low_arg y core h) (lit< tt), λ n low. has_sum 2 n 0 core h low (lit< tt)),
  λ input core h. (λ y. has_sum 1 (arg_of y core) core.cy core h (low_arg y core h) (h.locations loc.Cy), λ n low. has_sum 2 n core.cy core h low (h.locations loc.Cy)),
)

has_difference : (n y b : ℕ) (core : Core) → IsCore core → y < 256 → b < 2 → HasDifference y b (difference y b core) core (advance n (subtract y b core))
unfolding subtract compare with_reg with_szp with_flag advance with_pc
has_difference n y b core h lowy lowb = record {
  difference = borrow_of core.a y b (h.locations loc.A) lowy lowb;
  within = byte_of (core.a + 256 - (y + b));
  low_digits = half_borrow_of core.a y b (h.locations loc.A) lowy lowb;
  shown = shows (difference y b core) _ (byte_of (core.a + 256 - (y + b))) refl refl refl;
}

pub subtracts : Subtracts
unfolding effect alu subtract with_reg advance with_pc
subtracts = (
  λ input core h. (λ y. has_difference 1 (arg_of y core) 0 core h (low_arg y core h) (lit< tt), λ n low. has_difference 2 n 0 core h low (lit< tt)),
  λ input core h. (λ y. has_difference 1 (arg_of y core) core.cy core h (low_arg y core h) (h.locations loc.Cy), λ n low. has_difference 2 n core.cy core h low (h.locations loc.Cy)),
)

has_comparison : (n y : ℕ) (core : Core) → IsCore core → y < 256
    → ((advance n (compare y 0 core)).a ≡ core.a) × ((r : ℕ) × HasDifference y 0 r core (advance n (compare y 0 core)))
unfolding compare with_szp with_flag advance with_pc
has_comparison n y core h lowy = (
  refl,
  (
    difference y 0 core,
    record {
      difference = borrow_of core.a y 0 (h.locations loc.A) lowy (lit< tt);
      within = byte_of (core.a + 256 - (y + 0));
      low_digits = half_borrow_of core.a y 0 (h.locations loc.A) lowy (lit< tt);
      shown = shows (difference y 0 core) _ (byte_of (core.a + 256 - (y + 0))) refl refl refl;
    },
  ),
)

pub compares : Compares
unfolding effect alu
compares input core h = (λ y. has_comparison 1 (arg_of y core) core h (low_arg y core h), λ n low. has_comparison 2 n core h low)

-- ---- INR and DCR

-- an operand, AC, CY and the other flags after a result went to the operand
record IsStepped (y : Arg) (r c : ℕ) (old new : Core) : Type 0 where
  operand : arg_of y new ≡ r
  half : new.ac ≡ c
  carry : new.cy ≡ old.cy
  sign : new.s ≡ one_if (nat_le 128 r)
  zero : new.z ≡ one_if (r == 0)
  parity : new.p ≡ one_if (count_ones r % 2 == 0)

abbrev stepped : Arg → ℕ → ℕ → Core → Core
stepped y r c core = advance 1 (with_arg y r (with_szp r (with_flag loc.Ac c core)))

is_stepped : (y : Arg) (r c : ℕ) (core : Core) → IsCore core → IsStepped y r c core (stepped y r c core)
unfolding with_arg with_cell with_reg with_szp with_flag advance with_pc
is_stepped arg.M r c core h = record {
  operand = get_or-set_same core.cells (pair_of pair.H core % 65536) r 0 (let m = h.memory in omega arith);
  half = refl;
  carry = refl;
  sign = refl;
  zero = refl;
  parity = refl;
}
is_stepped (arg.Reg reg.B) r c core h = record { operand = refl; half = refl; carry = refl; sign = refl; zero = refl; parity = refl }
is_stepped (arg.Reg q) r c core h = record { operand = refl; half = refl; carry = refl; sign = refl; zero = refl; parity = refl }

more_low : (v : ℕ) → v < 256 → 16 * one_if ((v + 1) % 256 % 16 == 0) + (v + 1) % 256 % 16 ≡ v % 16 + 1
more_low v low = grind (arith, nat_tests)

less_one : (v : ℕ) → v < 256 → ((v + 255) % 256 + 1) % 256 ≡ v
less_one v low = omega arith

less_low : (v : ℕ) → v < 256 → (v + 255) % 256 % 16 + 1 + 16 * one_if (not (v % 16 == 0)) ≡ v % 16 + 16
less_low v low = grind (arith, nat_tests)

has_more : (y : Arg) (v c : ℕ) (core : Core) → IsCore core → v < 256 → 16 * c + (v + 1) % 256 % 16 ≡ v % 16 + 1
    → HasOneMore v (arg_of y (stepped y ((v + 1) % 256) c core)) core (stepped y ((v + 1) % 256) c core)
has_more y v c core h low half =
    let new = stepped y ((v + 1) % 256) c core in
    let s = is_stepped y ((v + 1) % 256) c core h in
    subst (λ r. HasOneMore v r core new) (sym s.operand) (record {
      result = refl;
      low_digits = ap (λ x. 16 * x + (v + 1) % 256 % 16) s.half ∙ half;
      carry = s.carry;
      shown = shows ((v + 1) % 256) new (byte_of (v + 1)) s.sign s.zero s.parity;
    })

has_less : (y : Arg) (v c : ℕ) (core : Core) → IsCore core → v < 256 → (v + 255) % 256 % 16 + 1 + 16 * c ≡ v % 16 + 16
    → HasOneLess v (arg_of y (stepped y ((v + 255) % 256) c core)) core (stepped y ((v + 255) % 256) c core)
has_less y v c core h low half =
    let new = stepped y ((v + 255) % 256) c core in
    let s = is_stepped y ((v + 255) % 256) c core h in
    subst (λ r. HasOneLess v r core new) (sym s.operand) (record {
      result = less_one v low;
      within = byte_of (v + 255);
      low_digits = ap (λ x. (v + 255) % 256 % 16 + 1 + 16 * x) s.half ∙ half;
      carry = s.carry;
      shown = shows ((v + 255) % 256) new (byte_of (v + 255)) s.sign s.zero s.parity;
    })

pub counts_by_one : CountsByOne
unfolding effect increase decrease
counts_by_one input y core h =
    let low = low_arg y core h in
    (has_more y (arg_of y core) _ core h low (more_low (arg_of y core) low), has_less y (arg_of y core) _ core h low (less_low (arg_of y core) low))

-- ---- pairs

pub low_pair : (p : Pair) (core : Core) → IsCore core → pair_of p core < 65536
low_pair pair.B core h = let high : core.b < 256 = h.locations loc.B in let low : core.c < 256 = h.locations loc.C in omega arith
low_pair pair.D core h = let high : core.d < 256 = h.locations loc.D in let low : core.e < 256 = h.locations loc.E in omega arith
low_pair pair.H core h = let high : core.h < 256 = h.locations loc.H in let low : core.l < 256 = h.locations loc.L in omega arith
low_pair pair.Sp core h = h.sp

pair_sum : (sum : ℕ) → sum < 131072 → 65536 * one_if (nat_le 65536 sum) + (256 * (sum % 65536 / 256 % 256) + sum % 65536 % 256) ≡ sum
pair_sum sum low = grind (arith, nat_tests)

pub adds_pairs : AddsPairs
unfolding effect add_pair with_pair with_reg with_flag advance with_pc
adds_pairs input p core h =
    let hl = low_pair pair.H core h in let other = low_pair p core h in
    pair_sum (pair_of pair.H core + pair_of p core) (omega arith)

joined : (w : ℕ) → 256 * (w / 256 % 256) + w % 256 ≡ w % 65536
joined w = omega arith

pub pair_of-with_pair : (p : Pair) (w n : ℕ) (core : Core) → pair_of p (advance n (with_pair p w core)) ≡ w % 65536
unfolding with_pair with_reg with_sp advance with_pc
pair_of-with_pair pair.B w n core = joined w
pair_of-with_pair pair.D w n core = joined w
pair_of-with_pair pair.H w n core = joined w
pair_of-with_pair pair.Sp w n core = refl

less_pair : (w : ℕ) → w < 65536 → ((w + 65535) % 65536 + 1) % 65536 ≡ w
less_pair w low = omega arith

pub counts_pairs_by_one : CountsPairsByOne
unfolding effect
counts_pairs_by_one input p core h = (
  pair_of-with_pair p (pair_of p core + 1) 1 core,
  ap (λ w. (w + 1) % 65536) (pair_of-with_pair p (pair_of p core + 65535) 1 core) ∙ less_pair (pair_of p core) (low_pair p core h),
)

-- ---- DAA after an addition

low_digit_over : (a y c : ℕ) → c < 2 → a % 16 < 10 → y % 16 < 10
    → (nat_lt 9 ((a + y + c) % 256 % 16) || (one_if (nat_le 16 (a % 16 + y % 16 + c)) == 1)) ≡ nat_le 10 (a % 16 + y % 16 + c)
low_digit_over a y c lowc lowa lowy = grind (arith, nat_tests)

sum_over : (sum : ℕ) → sum < 512 → (nat_lt 0x99 (sum % 256) || (one_if (nat_le 256 sum) == 1)) ≡ nat_le 154 sum
sum_over sum low = grind (arith, nat_tests)

-- the digits of a decimal sum, from the digits of the numbers
digits : (a1 a0 y1 y0 c : ℕ) → a1 < 10 → a0 < 10 → y1 < 10 → y0 < 10 → c < 2
    → let sum = 16 * a1 + a0 + (16 * y1 + y0) + c in
    let r = (sum % 256 + 6 * one_if (nat_le 10 (a0 + y0 + c)) + 0x60 * one_if (nat_le 154 sum)) % 256 in
    IsDecimal r × (100 * one_if (nat_le 154 sum) + decimal r ≡ 10 * a1 + a0 + (10 * y1 + y0) + c)
digits a1 a0 y1 y0 c la1 la0 ly1 ly0 lc = grind (arith, nat_tests)

-- the digits of a byte
byte_digits : (byte : ℕ) → 16 * (byte / 16) + byte % 16 ≡ byte
byte_digits byte = omega arith

decimal_sum : (a y c : ℕ) → IsDecimal a → IsDecimal y → c < 2
    → let r = (a + y + c) % 256 in
    let low = nat_lt 9 (r % 16) || (one_if (nat_le 16 (a % 16 + y % 16 + c)) == 1) in
    let high = nat_lt 0x99 r || (one_if (nat_le 256 (a + y + c)) == 1) in
    let new = (r + 6 * one_if low + 0x60 * one_if high) % 256 in
    IsDecimal new × (100 * one_if high + decimal new ≡ decimal a + decimal y + c)
decimal_sum a y c da dy lowc =
    let sum : 16 * (a / 16) + a % 16 + (16 * (y / 16) + y % 16) + c ≡ a + y + c = omega arith in
    let high = sum_over (a + y + c) (let d0 = da.0 in let d1 = da.1 in let e0 = dy.0 in let e1 = dy.1 in omega arith) in
    let low = low_digit_over a y c lowc da.1 dy.1 in
    let found = digits (a / 16) (a % 16) (y / 16) (y % 16) c da.0 da.1 dy.0 dy.1 lowc in
    rw (low, high) (subst (λ (s : ℕ). let r = (s % 256 + 6 * one_if (nat_le 10 (a % 16 + y % 16 + c)) + 0x60 * one_if (nat_le 154 s)) % 256 in
    IsDecimal r × (100 * one_if (nat_le 154 s) + decimal r ≡ decimal a + decimal y + c)) sum found)

has_decimal_sum : (n y c : ℕ) (core : Core) → c < 2 → HasDecimalSum y c core (advance n (add y c core))
unfolding effect add adjust with_reg with_szp with_flag advance with_pc
has_decimal_sum n y c core lowc input da dy = decimal_sum core.a y c da dy lowc

pub adds_decimals : AddsDecimals
unfolding effect alu
adds_decimals = (
  λ input core h. (λ y. has_decimal_sum 1 (arg_of y core) 0 core (lit< tt), λ n low. has_decimal_sum 2 n 0 core (lit< tt)),
  λ input core h. (λ y. has_decimal_sum 1 (arg_of y core) core.cy core (h.locations loc.Cy), λ n low. has_decimal_sum 2 n core.cy core (h.locations loc.Cy)),
)

-- ---- rotates

left : (a : ℕ) → a < 256 → 256 * (a / 128) + (2 * a % 256 + a / 128) ≡ 2 * a + a / 128
left a low = omega arith

right : (a : ℕ) → 2 * (a / 2 + 128 * (a % 2)) + a % 2 ≡ a + 256 * (a % 2)
right a = omega arith

left_through : (a c : ℕ) → a < 256 → 256 * (a / 128) + (2 * a % 256 + c) ≡ 2 * a + c
left_through a c low = omega arith

right_through : (a c : ℕ) → 2 * (a / 2 + 128 * c) + a % 2 ≡ a + 256 * c
right_through a c = omega arith

pub rotates : Rotates
unfolding effect rotate with_reg with_flag advance with_pc
rotates input core h =
    let low : core.a < 256 = h.locations loc.A in
    (left core.a low, right core.a, left_through core.a core.cy low, right_through core.a core.cy)
