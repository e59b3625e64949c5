-- Instructions that undo one another, and returns that come back.
use Rattle.std.proofs.Common.{◌≡◌, ◌∙◌, ap, ap₂, refl, ℕ, ◌+◌, ◌-◌, ◌*◌, ◌/◌, ◌%◌, ◌<◌, ◌↔◌, true, not, length, List, arith, get_or-set_same, get_or-set_other}
use Rattle.std.specs.Prelude.{◌==◌, nat_lt, slice_index, slice_set}
use Rattle.std.proofs.Math.ListN.{length-set}
use Rattle.std.proofs.lemmas.Bool.Decides.{nat_tests}
use Rattle.sp_base.specs.declared.location.Loc.{Loc}
use Rattle.sp_base.specs.declared.location.Loc.TheVariants as loc
use Rattle.sp_isa.specs.declared.instr.StackPair.{StackPair}
use Rattle.sp_isa.specs.declared.instr.StackPair.TheVariants as stack
use Rattle.sp_isa.specs.declared.instr.Cond.TheVariants as when
use Rattle.sp_isa.specs.declared.instr.Instr.TheVariants.{Ral, Rar, Cma, Cmc, Push, Pop, Xchg}
use Rattle.sp_isa.specs.Core.{Core, IsCore, at, with_reg, with_flag, with_cell, with_sp, with_pc, advance}
use Rattle.sp_isa.specs.Operands.{with_pair, arg_of}
use Rattle.sp_isa.specs.Arithmetic.{one_if, compare, with_szp, alu, rotate}
use Rattle.sp_isa.specs.Stack.{push, flag_byte, with_flag_byte, push_pair, top_to, pop_pair, holds, call, ret, exchange_pairs}
use Rattle.sp_isa.specs.Effect.{effect}
use Rattle.sp_isa.specs.Undoing.{Undoes, SomeUndoOthers, PopsRestore, PopsMove, CallsComeBack, ConditionsAreOpposites, ComparisonsTell}
use Rattle.sp_isa.proofs.Cases.{each_loc}
use Rattle.sp_isa.proofs.CoreLemmas.{low_arg}

-- ---- two instructions of one byte each

two_on : (pc : ℕ) → ((pc + 1) % 65536 + 1) % 65536 ≡ (pc + 2) % 65536
two_on pc = omega arith

xchg_undoes : Undoes Xchg Xchg
unfolding effect exchange_pairs with_reg advance with_pc
xchg_undoes input core h = λ j. record core { pc = two_on core.pc j }

complement_twice : (a : ℕ) → a < 256 → 255 - (255 - a) ≡ a
complement_twice a low = omega arith

cma_undoes : Undoes Cma Cma
unfolding effect with_reg advance with_pc
cma_undoes input core h = λ j. record core { pc = two_on core.pc j; a = complement_twice core.a (h.locations loc.A) j }

turned_twice : (c : ℕ) → c < 2 → 1 - (1 - c) ≡ c
turned_twice c low = omega arith

cmc_undoes : Undoes Cmc Cmc
unfolding effect with_flag advance with_pc
cmc_undoes input core h = λ j. record core { pc = two_on core.pc j; cy = turned_twice core.cy (h.locations loc.Cy) j }

back_left : (a c : ℕ) → a < 256 → c < 2 → 2 * (a / 2 + 128 * c) % 256 + a % 2 ≡ a
back_left a c low lowc = omega arith

carry_left : (a c : ℕ) → a < 256 → c < 2 → (a / 2 + 128 * c) / 128 ≡ c
carry_left a c low lowc = omega arith

ral_undoes : Undoes Rar Ral
unfolding effect rotate with_reg with_flag advance with_pc
ral_undoes input core h =
    let low : core.a < 256 = h.locations loc.A in let lowc : core.cy < 2 = h.locations loc.Cy in
    λ j. record core { pc = two_on core.pc j; a = back_left core.a core.cy low lowc j; cy = carry_left core.a core.cy low lowc j }

back_right : (a c : ℕ) → a < 256 → c < 2 → (2 * a % 256 + c) / 2 + 128 * (a / 128) ≡ a
back_right a c low lowc = omega arith

carry_right : (a c : ℕ) → c < 2 → (2 * a % 256 + c) % 2 ≡ c
carry_right a c lowc = omega arith

rar_undoes : Undoes Ral Rar
unfolding effect rotate with_reg with_flag advance with_pc
rar_undoes input core h =
    let low : core.a < 256 = h.locations loc.A in let lowc : core.cy < 2 = h.locations loc.Cy in
    λ j. record core { pc = two_on core.pc j; a = back_right core.a core.cy low lowc j; cy = carry_right core.a core.cy lowc j }

pub some_undo_others : SomeUndoOthers
some_undo_others = (xchg_undoes, cma_undoes, cmc_undoes, ral_undoes, rar_undoes)

-- ---- the stack

-- the cells after a high and a low byte went onto the stack
abbrev pub pushed : ℕ → ℕ → Core → List ℕ
pushed high low core = slice_set (slice_set core.cells ((core.sp + 65535) % 65536) high) ((core.sp + 65534) % 65536) low

low_pushed : (high low : ℕ) (core : Core) → IsCore core → slice_index (pushed high low core) ((core.sp + 65534) % 65536 % 65536) ≡ low
low_pushed high low core h =
    let same : (core.sp + 65534) % 65536 % 65536 ≡ (core.sp + 65534) % 65536 = omega arith in
    let len : length (slice_set core.cells ((core.sp + 65535) % 65536) high) ≡ 65536 = length-set core.cells ((core.sp + 65535) % 65536) high ∙ h.memory in
    ap (slice_index (pushed high low core)) same
    ∙ get_or-set_same (slice_set core.cells ((core.sp + 65535) % 65536) high) ((core.sp + 65534) % 65536) low 0 (omega arith)

high_pushed : (high low : ℕ) (core : Core) → IsCore core → slice_index (pushed high low core) (((core.sp + 65534) % 65536 + 1) % 65536) ≡ high
high_pushed high low core h =
    let same : ((core.sp + 65534) % 65536 + 1) % 65536 ≡ (core.sp + 65535) % 65536 = omega arith in
    let len = h.memory in
    ap (slice_index (pushed high low core)) same
    ∙ get_or-set_other (slice_set core.cells ((core.sp + 65535) % 65536) high) ((core.sp + 65534) % 65536) ((core.sp + 65535) % 65536) low 0 (λ e. omega arith)
    ∙ get_or-set_same core.cells ((core.sp + 65535) % 65536) high 0 (omega arith)

sp_back : (sp : ℕ) → sp < 65536 → ((sp + 65534) % 65536 + 2) % 65536 ≡ sp
sp_back sp low = omega arith

-- the word on the stack
abbrev pub top_word : List ℕ → ℕ → ℕ
top_word cells sp = slice_index cells (sp % 65536) + 256 * slice_index cells ((sp + 1) % 65536)

pub word_pushed : (high low : ℕ) (core : Core) → IsCore core → top_word (pushed high low core) ((core.sp + 65534) % 65536) ≡ low + 256 * high
word_pushed high low core h = ap₂ (λ x y. x + 256 * y) (low_pushed high low core h) (high_pushed high low core h)

pub high_of : (w high low : ℕ) → high < 256 → low < 256 → w ≡ low + 256 * high → w / 256 % 256 ≡ high
high_of w high low lowh lowl e = omega arith

pub low_of : (w high low : ℕ) → low < 256 → w ≡ low + 256 * high → w % 256 ≡ low
low_of w high low lowl e = omega arith

-- ---- calls and returns

back_to : (w : ℕ) → w < 65536 → (w % 256 + 256 * (w / 256)) % 65536 ≡ w
back_to w low = omega arith

comes_back : (n w : ℕ) (core : Core) → IsCore core → ((call n w core).pc ≡ w % 65536) × ((ret (call n w core)).pc ≡ (core.pc + n) % 65536) × ((ret (call n w core)).sp ≡ core.sp)
unfolding call ret push with_cell with_sp with_pc
comes_back n w core h =
    let next = (core.pc + n) % 65536 in
    (refl, ap (λ x. x % 65536) (word_pushed (next / 256) (next % 256) core h) ∙ back_to next (omega arith), sp_back core.sp h.sp)

pub calls_come_back : CallsComeBack
unfolding effect
calls_come_back = (λ w input core h. comes_back 3 w core h, λ n input core h. comes_back 1 (8 * n) core h)

-- ---- conditions

opposite : (b : ℕ) → b < 2 → (b == 0) ≡ not (b == 1)
opposite b low = grind (arith, nat_tests)

pub conditions_are_opposites : ConditionsAreOpposites
conditions_are_opposites core h =
    (opposite core.z (h.locations loc.Z), opposite core.cy (h.locations loc.Cy), opposite core.p (h.locations loc.P), opposite core.s (h.locations loc.S))

equal_bytes : (a y : ℕ) → a < 256 → y < 256 → ((one_if ((a + 256 - (y + 0)) % 256 == 0) == 1) ≡ true) ↔ (a ≡ y)
equal_bytes a y low lowy = (λ h. grind (arith, nat_tests), λ h. grind (arith, nat_tests))

below_byte : (a y : ℕ) → ((one_if (nat_lt a (y + 0)) == 1) ≡ true) ↔ (a < y)
below_byte a y = (λ h. grind (arith, nat_tests), λ h. grind (arith, nat_tests))

comparison_tells : (n y : ℕ) (core : Core) → IsCore core → y < 256
    → ((holds when.Z (advance n (compare y 0 core)) ≡ true) ↔ (core.a ≡ y)) × ((holds when.C (advance n (compare y 0 core)) ≡ true) ↔ (core.a < y))
unfolding compare with_szp with_flag advance with_pc
comparison_tells n y core h lowy = (equal_bytes core.a y (h.locations loc.A) lowy, below_byte core.a y)

pub comparisons_tell : ComparisonsTell
unfolding effect alu
comparisons_tell input core h = (λ y. comparison_tells 1 (arg_of y core) core h (low_arg y core h), λ n low. comparison_tells 2 n core h low)

-- ---- POP after PUSH

abbrev popped : ℕ → StackPair → StackPair → Core → Core
popped input p q core = effect input (Pop q) (effect input (Push p) core)

abbrev Stays : ℕ → StackPair → Core → Loc → Type 0
Stays input p core x = at x (popped input p p core) ≡ at x core

bits_of : (s z ac p cy : ℕ) → s < 2 → z < 2 → ac < 2 → p < 2 → cy < 2
    → let y = 128 * s + 64 * z + 16 * ac + 4 * p + 2 + cy in
    (y / 128 % 2 ≡ s) × (y / 64 % 2 ≡ z) × (y / 16 % 2 ≡ ac) × (y / 4 % 2 ≡ p) × (y % 2 ≡ cy)
bits_of s z ac p cy ls lz lac lp lcy = (omega arith, omega arith, omega arith, omega arith, omega arith)

pub pops_restore : PopsRestore
unfolding effect push_pair push pop_pair top_to with_pair with_flag_byte with_reg with_flag with_cell with_sp advance with_pc
pops_restore input stack.B core h =
    let e = word_pushed core.b core.c core h in
    (each_loc (Stays input stack.B core) refl (high_of _ core.b core.c (h.locations loc.B) (h.locations loc.C) e) (low_of _ core.b core.c (h.locations loc.C) e) refl refl refl refl refl refl refl refl refl, sp_back core.sp h.sp)
pops_restore input stack.D core h =
    let e = word_pushed core.d core.e core h in
    (each_loc (Stays input stack.D core) refl refl refl (high_of _ core.d core.e (h.locations loc.D) (h.locations loc.E) e) (low_of _ core.d core.e (h.locations loc.E) e) refl refl refl refl refl refl refl, sp_back core.sp h.sp)
pops_restore input stack.H core h =
    let e = word_pushed core.h core.l core h in
    (each_loc (Stays input stack.H core) refl refl refl refl refl (high_of _ core.h core.l (h.locations loc.H) (h.locations loc.L) e) (low_of _ core.h core.l (h.locations loc.L) e) refl refl refl refl refl, sp_back core.sp h.sp)
pops_restore input stack.Psw core h =
    let low = low_pushed core.a (flag_byte core) core h in
    let bits = bits_of core.s core.z core.ac core.p core.cy (h.locations loc.S) (h.locations loc.Z) (h.locations loc.Ac) (h.locations loc.P) (h.locations loc.Cy) in (
      each_loc (Stays input stack.Psw core) (high_pushed core.a (flag_byte core) core h) refl refl refl refl refl refl
          (ap (λ y. y / 128 % 2) low ∙ bits.0) (ap (λ y. y / 64 % 2) low ∙ bits.1) (ap (λ y. y / 16 % 2) low ∙ bits.2) (ap (λ y. y / 4 % 2) low ∙ bits.3) (ap (λ y. y % 2) low ∙ bits.4),
      sp_back core.sp h.sp,
    )

moved_word : (w high low : ℕ) → high < 256 → low < 256 → w ≡ low + 256 * high → 256 * (w / 256 % 256) + w % 256 ≡ 256 * high + low
moved_word w high low lowh lowl e = omega arith

pub pops_move : PopsMove
unfolding effect push_pair push pop_pair top_to with_pair with_reg with_cell with_sp advance with_pc
pops_move input core h = (
  moved_word _ core.b core.c (h.locations loc.B) (h.locations loc.C) (word_pushed core.b core.c core h),
  moved_word _ core.d core.e (h.locations loc.D) (h.locations loc.E) (word_pushed core.d core.e core h),
)
