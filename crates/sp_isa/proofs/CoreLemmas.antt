-- Effects and steps keep each part of the core in its range.
use Rattle.std.proofs.Common.{ℕ, ◌+◌, ◌*◌, ◌/◌, ◌%◌, ◌-◌, ◌<◌, Bool, true, false, cond, ◌≡◌, sym, ap, ◌∙◌, arith, subst, All, [], ◌∷◌, length, lit<, Some, None}
use Rattle.std.specs.Prelude.{Option, ◌||◌, ◌==◌, nat_lt, nat_le, not}
use Rattle.std.specs.Option.{option_map}
use Rattle.std.specs.Int.RustNames.{bit_and, bit_or, bit_xor, count_ones}
use Rattle.std.proofs.Math.ListN.{length-set}
use Rattle.std.proofs.lemmas.Option.{none-some, same_Some}
use Rattle.std.proofs.lemmas.Nat.{and_le_r, or_lt, xor_lt}
use Rattle.std.proofs.lemmas.List.Elements.{All-set, All-get_or, All-nil, All-cons}
use Rattle.sp_base.specs.declared.location.Reg.{Reg}
use Rattle.sp_base.specs.declared.location.Reg.TheVariants as reg
use Rattle.sp_base.specs.declared.location.Loc.{Loc}
use Rattle.sp_base.specs.declared.location.Loc.TheVariants as loc
use Rattle.sp_base.specs.declared.pair.Pair.{Pair}
use Rattle.sp_base.specs.declared.pair.Pair.TheVariants as pair
use Rattle.sp_isa.specs.declared.instr.Arg.{Arg}
use Rattle.sp_isa.specs.declared.instr.Arg.TheVariants as arg
use Rattle.sp_isa.specs.declared.instr.StackPair.{StackPair}
use Rattle.sp_isa.specs.declared.instr.StackPair.TheVariants as stack
use Rattle.sp_isa.specs.declared.instr.Op.{Op}
use Rattle.sp_isa.specs.declared.instr.Op.TheVariants as op
use Rattle.sp_isa.specs.declared.instr.Instr.{Instr}
use Rattle.sp_isa.specs.declared.instr.Instr.TheVariants.{Mov, Mvi, Inr, Dcr, Alu, AluImmediate, Lxi, Dad, Inx, Dcx, Stax, Ldax, Shld, Lhld, Sta, Lda, Rlc, Rrc, Ral, Rar, Daa, Cma, Stc, Cmc, Push, Pop, Jmp, Jcc, Call, Ccc, Ret, Rcc, Rst, Pchl, Sphl, Xthl, Xchg, In, Out, Nop, Ei, Di, Hlt}
use Rattle.sp_isa.specs.Code.{operand, bytes_of}
use Rattle.sp_isa.specs.Core.{Core, IsCore, IsFlag, at, limit, reg_of, cell, with_reg, with_flag, with_cell, with_sp, with_pc, with_halted, advance}
use Rattle.sp_isa.specs.Operands.{pair_of, with_pair, arg_of, with_arg}
use Rattle.sp_isa.specs.Arithmetic.{one_if, with_szp, add, compare, subtract, logic, bit_three, alu, increase, decrease, add_pair, adjusts_low, adjusts_high, adjust, rotate}
use Rattle.sp_isa.specs.Stack.{push, flag_byte, with_flag_byte, push_pair, top_to, pop_pair, holds, call, ret, exchange_top, exchange_pairs}
use Rattle.sp_isa.specs.Effect.{effect}
use Rattle.sp_isa.specs.Decode.{decode, with_operand, form}
use Rattle.sp_isa.specs.Step.{instr_at, after, step, EffectsKeepCores, StepsKeepCores}
use Rattle.sp_isa.proofs.Cases.{each_loc}

below_65536 : (v : ℕ) → v % 65536 < 65536
below_65536 v = omega arith

keep_b : (v : ℕ) (core : Core) → v < 256 → IsCore core → IsCore (with_reg reg.B v core)
unfolding with_reg
keep_b v core low h = record {
  locations = each_loc (λ x. at x (with_reg reg.B v core) < limit x) (h.locations loc.A) low (h.locations loc.C) (h.locations loc.D) (h.locations loc.E) (h.locations loc.H) (h.locations loc.L) (h.locations loc.S) (h.locations loc.Z) (h.locations loc.Ac) (h.locations loc.P) (h.locations loc.Cy);
  sp = h.sp;
  pc = h.pc;
  memory = h.memory;
  bytes = h.bytes;
}

keep_c : (v : ℕ) (core : Core) → v < 256 → IsCore core → IsCore (with_reg reg.C v core)
unfolding with_reg
keep_c v core low h = record {
  locations = each_loc (λ x. at x (with_reg reg.C v core) < limit x) (h.locations loc.A) (h.locations loc.B) low (h.locations loc.D) (h.locations loc.E) (h.locations loc.H) (h.locations loc.L) (h.locations loc.S) (h.locations loc.Z) (h.locations loc.Ac) (h.locations loc.P) (h.locations loc.Cy);
  sp = h.sp;
  pc = h.pc;
  memory = h.memory;
  bytes = h.bytes;
}

keep_d : (v : ℕ) (core : Core) → v < 256 → IsCore core → IsCore (with_reg reg.D v core)
unfolding with_reg
keep_d v core low h = record {
  locations = each_loc (λ x. at x (with_reg reg.D v core) < limit x) (h.locations loc.A) (h.locations loc.B) (h.locations loc.C) low (h.locations loc.E) (h.locations loc.H) (h.locations loc.L) (h.locations loc.S) (h.locations loc.Z) (h.locations loc.Ac) (h.locations loc.P) (h.locations loc.Cy);
  sp = h.sp;
  pc = h.pc;
  memory = h.memory;
  bytes = h.bytes;
}

keep_e : (v : ℕ) (core : Core) → v < 256 → IsCore core → IsCore (with_reg reg.E v core)
unfolding with_reg
keep_e v core low h = record {
  locations = each_loc (λ x. at x (with_reg reg.E v core) < limit x) (h.locations loc.A) (h.locations loc.B) (h.locations loc.C) (h.locations loc.D) low (h.locations loc.H) (h.locations loc.L) (h.locations loc.S) (h.locations loc.Z) (h.locations loc.Ac) (h.locations loc.P) (h.locations loc.Cy);
  sp = h.sp;
  pc = h.pc;
  memory = h.memory;
  bytes = h.bytes;
}

keep_h : (v : ℕ) (core : Core) → v < 256 → IsCore core → IsCore (with_reg reg.H v core)
unfolding with_reg
keep_h v core low h = record {
  locations = each_loc (λ x. at x (with_reg reg.H v core) < limit x) (h.locations loc.A) (h.locations loc.B) (h.locations loc.C) (h.locations loc.D) (h.locations loc.E) low (h.locations loc.L) (h.locations loc.S) (h.locations loc.Z) (h.locations loc.Ac) (h.locations loc.P) (h.locations loc.Cy);
  sp = h.sp;
  pc = h.pc;
  memory = h.memory;
  bytes = h.bytes;
}

keep_l : (v : ℕ) (core : Core) → v < 256 → IsCore core → IsCore (with_reg reg.L v core)
unfolding with_reg
keep_l v core low h = record {
  locations = each_loc (λ x. at x (with_reg reg.L v core) < limit x) (h.locations loc.A) (h.locations loc.B) (h.locations loc.C) (h.locations loc.D) (h.locations loc.E) (h.locations loc.H) low (h.locations loc.S) (h.locations loc.Z) (h.locations loc.Ac) (h.locations loc.P) (h.locations loc.Cy);
  sp = h.sp;
  pc = h.pc;
  memory = h.memory;
  bytes = h.bytes;
}

keep_a : (v : ℕ) (core : Core) → v < 256 → IsCore core → IsCore (with_reg reg.A v core)
unfolding with_reg
keep_a v core low h = record {
  locations = each_loc (λ x. at x (with_reg reg.A v core) < limit x) low (h.locations loc.B) (h.locations loc.C) (h.locations loc.D) (h.locations loc.E) (h.locations loc.H) (h.locations loc.L) (h.locations loc.S) (h.locations loc.Z) (h.locations loc.Ac) (h.locations loc.P) (h.locations loc.Cy);
  sp = h.sp;
  pc = h.pc;
  memory = h.memory;
  bytes = h.bytes;
}

pub keep_reg : (r : Reg) (v : ℕ) (core : Core) → v < 256 → IsCore core → IsCore (with_reg r v core)
keep_reg reg.B v core = keep_b v core
keep_reg reg.C v core = keep_c v core
keep_reg reg.D v core = keep_d v core
keep_reg reg.E v core = keep_e v core
keep_reg reg.H v core = keep_h v core
keep_reg reg.L v core = keep_l v core
keep_reg reg.A v core = keep_a v core

flag_s : (v : ℕ) (core : Core) → v < 2 → IsCore core → IsCore (with_flag loc.S v core)
unfolding with_flag
flag_s v core low h = record {
  locations = each_loc (λ x. at x (with_flag loc.S v core) < limit x) (h.locations loc.A) (h.locations loc.B) (h.locations loc.C) (h.locations loc.D) (h.locations loc.E) (h.locations loc.H) (h.locations loc.L) low (h.locations loc.Z) (h.locations loc.Ac) (h.locations loc.P) (h.locations loc.Cy);
  sp = h.sp;
  pc = h.pc;
  memory = h.memory;
  bytes = h.bytes;
}

flag_z : (v : ℕ) (core : Core) → v < 2 → IsCore core → IsCore (with_flag loc.Z v core)
unfolding with_flag
flag_z v core low h = record {
  locations = each_loc (λ x. at x (with_flag loc.Z v core) < limit x) (h.locations loc.A) (h.locations loc.B) (h.locations loc.C) (h.locations loc.D) (h.locations loc.E) (h.locations loc.H) (h.locations loc.L) (h.locations loc.S) low (h.locations loc.Ac) (h.locations loc.P) (h.locations loc.Cy);
  sp = h.sp;
  pc = h.pc;
  memory = h.memory;
  bytes = h.bytes;
}

flag_ac : (v : ℕ) (core : Core) → v < 2 → IsCore core → IsCore (with_flag loc.Ac v core)
unfolding with_flag
flag_ac v core low h = record {
  locations = each_loc (λ x. at x (with_flag loc.Ac v core) < limit x) (h.locations loc.A) (h.locations loc.B) (h.locations loc.C) (h.locations loc.D) (h.locations loc.E) (h.locations loc.H) (h.locations loc.L) (h.locations loc.S) (h.locations loc.Z) low (h.locations loc.P) (h.locations loc.Cy);
  sp = h.sp;
  pc = h.pc;
  memory = h.memory;
  bytes = h.bytes;
}

flag_p : (v : ℕ) (core : Core) → v < 2 → IsCore core → IsCore (with_flag loc.P v core)
unfolding with_flag
flag_p v core low h = record {
  locations = each_loc (λ x. at x (with_flag loc.P v core) < limit x) (h.locations loc.A) (h.locations loc.B) (h.locations loc.C) (h.locations loc.D) (h.locations loc.E) (h.locations loc.H) (h.locations loc.L) (h.locations loc.S) (h.locations loc.Z) (h.locations loc.Ac) low (h.locations loc.Cy);
  sp = h.sp;
  pc = h.pc;
  memory = h.memory;
  bytes = h.bytes;
}

flag_cy : (v : ℕ) (core : Core) → v < 2 → IsCore core → IsCore (with_flag loc.Cy v core)
unfolding with_flag
flag_cy v core low h = record {
  locations = each_loc (λ x. at x (with_flag loc.Cy v core) < limit x) (h.locations loc.A) (h.locations loc.B) (h.locations loc.C) (h.locations loc.D) (h.locations loc.E) (h.locations loc.H) (h.locations loc.L) (h.locations loc.S) (h.locations loc.Z) (h.locations loc.Ac) (h.locations loc.P) low;
  sp = h.sp;
  pc = h.pc;
  memory = h.memory;
  bytes = h.bytes;
}

pub keep_flag : (x : Loc) (v : ℕ) (core : Core) → IsFlag x → v < 2 → IsCore core → IsCore (with_flag x v core)
keep_flag loc.S v core f = flag_s v core
keep_flag loc.Z v core f = flag_z v core
keep_flag loc.Ac v core f = flag_ac v core
keep_flag loc.P v core f = flag_p v core
keep_flag loc.Cy v core f = flag_cy v core
keep_flag x v core f = elim f [ ]

keep-with_sp : (v : ℕ) (core : Core) → IsCore core → IsCore (with_sp v core)
unfolding with_sp
keep-with_sp v core h = record {
  locations = each_loc (λ x. at x (with_sp v core) < limit x) (h.locations loc.A) (h.locations loc.B) (h.locations loc.C) (h.locations loc.D) (h.locations loc.E) (h.locations loc.H) (h.locations loc.L) (h.locations loc.S) (h.locations loc.Z) (h.locations loc.Ac) (h.locations loc.P) (h.locations loc.Cy);
  sp = below_65536 v;
  pc = h.pc;
  memory = h.memory;
  bytes = h.bytes;
}

keep-with_pc : (v : ℕ) (core : Core) → IsCore core → IsCore (with_pc v core)
unfolding with_pc
keep-with_pc v core h = record {
  locations = each_loc (λ x. at x (with_pc v core) < limit x) (h.locations loc.A) (h.locations loc.B) (h.locations loc.C) (h.locations loc.D) (h.locations loc.E) (h.locations loc.H) (h.locations loc.L) (h.locations loc.S) (h.locations loc.Z) (h.locations loc.Ac) (h.locations loc.P) (h.locations loc.Cy);
  sp = h.sp;
  pc = below_65536 v;
  memory = h.memory;
  bytes = h.bytes;
}

keep-advance : (n : ℕ) (core : Core) → IsCore core → IsCore (advance n core)
unfolding advance with_pc
keep-advance n core h = record {
  locations = each_loc (λ x. at x (advance n core) < limit x) (h.locations loc.A) (h.locations loc.B) (h.locations loc.C) (h.locations loc.D) (h.locations loc.E) (h.locations loc.H) (h.locations loc.L) (h.locations loc.S) (h.locations loc.Z) (h.locations loc.Ac) (h.locations loc.P) (h.locations loc.Cy);
  sp = h.sp;
  pc = below_65536 (core.pc + n);
  memory = h.memory;
  bytes = h.bytes;
}

keep-with_halted : (v : Bool) (core : Core) → IsCore core → IsCore (with_halted v core)
unfolding with_halted
keep-with_halted v core h = record {
  locations = each_loc (λ x. at x (with_halted v core) < limit x) (h.locations loc.A) (h.locations loc.B) (h.locations loc.C) (h.locations loc.D) (h.locations loc.E) (h.locations loc.H) (h.locations loc.L) (h.locations loc.S) (h.locations loc.Z) (h.locations loc.Ac) (h.locations loc.P) (h.locations loc.Cy);
  sp = h.sp;
  pc = h.pc;
  memory = h.memory;
  bytes = h.bytes;
}

pub keep-with_cell : (a v : ℕ) (core : Core) → v < 256 → IsCore core → IsCore (with_cell a v core)
unfolding with_cell
keep-with_cell a v core low h = record {
  locations = each_loc (λ x. at x (with_cell a v core) < limit x) (h.locations loc.A) (h.locations loc.B) (h.locations loc.C) (h.locations loc.D) (h.locations loc.E) (h.locations loc.H) (h.locations loc.L) (h.locations loc.S) (h.locations loc.Z) (h.locations loc.Ac) (h.locations loc.P) (h.locations loc.Cy);
  sp = h.sp;
  pc = h.pc;
  memory = length-set core.cells (a % 65536) v ∙ h.memory;
  bytes = All-set (λ byte. byte < 256) core.cells (a % 65536) v low h.bytes;
}

-- what the parts of a core in its ranges hold
pub low_reg : (r : Reg) (core : Core) → IsCore core → reg_of r core < 256
low_reg reg.B core h = h.locations loc.B
low_reg reg.C core h = h.locations loc.C
low_reg reg.D core h = h.locations loc.D
low_reg reg.E core h = h.locations loc.E
low_reg reg.H core h = h.locations loc.H
low_reg reg.L core h = h.locations loc.L
low_reg reg.A core h = h.locations loc.A

pub low_cell : (a : ℕ) (core : Core) → IsCore core → cell a core < 256
low_cell a core h =
    let within : a % 65536 < length core.cells = subst (λ n. a % 65536 < n) (sym h.memory) (below_65536 a) in
    All-get_or (λ byte. byte < 256) core.cells (a % 65536) 0 within h.bytes

pub low_arg : (y : Arg) (core : Core) → IsCore core → arg_of y core < 256
low_arg (arg.Reg r) core h = low_reg r core h
low_arg arg.M core h = low_cell (pair_of pair.H core) core h

one_if_low : (b : Bool) → one_if b < 2
one_if_low true = lit< tt
one_if_low false = lit< tt

byte_low : (v : ℕ) → v % 256 < 256
byte_low v = omega arith

keep_szp : (r : ℕ) (core : Core) → IsCore core → IsCore (with_szp r core)
unfolding with_szp
keep_szp r core h =
    flag_s _ _ (one_if_low (nat_le 128 r)) (flag_z _ _ (one_if_low (r == 0)) (flag_p _ _ (one_if_low (count_ones r % 2 == 0)) h))

keep_pair : (p : Pair) (w : ℕ) (core : Core) → IsCore core → IsCore (with_pair p w core)
unfolding with_pair
keep_pair pair.B w core h = keep_b _ _ (byte_low (w / 256)) (keep_c _ _ (byte_low w) h)
keep_pair pair.D w core h = keep_d _ _ (byte_low (w / 256)) (keep_e _ _ (byte_low w) h)
keep_pair pair.H w core h = keep_h _ _ (byte_low (w / 256)) (keep_l _ _ (byte_low w) h)
keep_pair pair.Sp w core h = keep-with_sp w core h

keep_arg : (y : Arg) (v : ℕ) (core : Core) → v < 256 → IsCore core → IsCore (with_arg y v core)
unfolding with_arg
keep_arg (arg.Reg r) v core low h = keep_reg r v core low h
keep_arg arg.M v core low h = keep-with_cell (pair_of pair.H core) v core low h

keep_add : (y c : ℕ) (core : Core) → IsCore core → IsCore (add y c core)
unfolding add
keep_add y c core h =
    keep_a _ _ (byte_low (core.a + y + c)) (keep_szp _ _ (flag_cy _ _ (one_if_low (nat_le 256 (core.a + y + c))) (flag_ac _ _ (one_if_low (nat_le 16 (core.a % 16 + y % 16 + c))) h)))

keep_compare : (y c : ℕ) (core : Core) → IsCore core → IsCore (compare y c core)
unfolding compare
keep_compare y c core h =
    keep_szp _ _ (flag_cy _ _ (one_if_low (nat_lt core.a (y + c))) (flag_ac _ _ (one_if_low (nat_le (y % 16 + c) (core.a % 16))) h))

keep_subtract : (y c : ℕ) (core : Core) → IsCore core → IsCore (subtract y c core)
unfolding subtract
keep_subtract y c core h = keep_a _ _ (byte_low (core.a + 256 - (y + c))) (keep_compare y c core h)

keep_logic : (r c : ℕ) (core : Core) → r < 256 → c < 2 → IsCore core → IsCore (logic r c core)
unfolding logic
keep_logic r c core low bit h = keep_a _ _ low (keep_szp _ _ (flag_cy _ _ (lit< tt) (flag_ac _ _ bit h)))

pub and_low : (a y : ℕ) → y < 256 → bit_and a y < 256
and_low a y low = omega (arith, and_le_r a y)

pub or_low : (a y : ℕ) → a < 256 → y < 256 → bit_or a y < 256
or_low a y one two = or_lt 8 a y one two

pub xor_low : (a y : ℕ) → a < 256 → y < 256 → bit_xor a y < 256
xor_low a y one two = xor_lt 8 a y one two

keep_alu : (o : Op) (y : ℕ) (core : Core) → y < 256 → IsCore core → IsCore (alu o y core)
unfolding alu
keep_alu op.Add y core low h = keep_add y 0 core h
keep_alu op.Adc y core low h = keep_add y core.cy core h
keep_alu op.Sub y core low h = keep_subtract y 0 core h
keep_alu op.Sbb y core low h = keep_subtract y core.cy core h
keep_alu op.Ana y core low h = keep_logic _ _ core (and_low core.a y low) (one_if_low (bit_three core.a || bit_three y)) h
keep_alu op.Xra y core low h = keep_logic _ 0 core (xor_low core.a y (h.locations loc.A) low) (lit< tt) h
keep_alu op.Ora y core low h = keep_logic _ 0 core (or_low core.a y (h.locations loc.A) low) (lit< tt) h
keep_alu op.Cmp y core low h = keep_compare y 0 core h

keep_increase : (y : Arg) (core : Core) → IsCore core → IsCore (increase y core)
unfolding increase
keep_increase y core h =
    keep_arg y _ _ (byte_low (arg_of y core + 1)) (keep_szp _ _ (flag_ac _ _ (one_if_low ((arg_of y core + 1) % 256 % 16 == 0)) h))

keep_decrease : (y : Arg) (core : Core) → IsCore core → IsCore (decrease y core)
unfolding decrease
keep_decrease y core h =
    keep_arg y _ _ (byte_low (arg_of y core + 255)) (keep_szp _ _ (flag_ac _ _ (one_if_low (not (arg_of y core % 16 == 0))) h))

keep_add_pair : (p : Pair) (core : Core) → IsCore core → IsCore (add_pair p core)
unfolding add_pair
keep_add_pair p core h = keep_pair pair.H _ _ (flag_cy _ _ (one_if_low (nat_le 65536 (pair_of pair.H core + pair_of p core))) h)

keep_adjust : (core : Core) → IsCore core → IsCore (adjust core)
unfolding adjust
keep_adjust core h =
    keep_a _ _ (byte_low (core.a + 6 * one_if (adjusts_low core) + 0x60 * one_if (adjusts_high core)))
    (keep_szp _ _ (flag_cy _ _ (one_if_low (adjusts_high core)) (flag_ac _ _ (one_if_low (nat_le 16 (core.a % 16 + 6 * one_if (adjusts_low core)))) h)))

keep_rotate : (r c : ℕ) (core : Core) → r < 256 → c < 2 → IsCore core → IsCore (rotate r c core)
unfolding rotate
keep_rotate r c core low bit h = keep_a _ _ low (flag_cy _ _ bit h)

keep_push : (high low : ℕ) (core : Core) → high < 256 → low < 256 → IsCore core → IsCore (push high low core)
unfolding push
keep_push high low core one two h =
    keep-with_sp _ _ (keep-with_cell _ _ _ two (keep-with_cell _ _ _ one h))

pub flag_byte_low : (core : Core) → IsCore core → flag_byte core < 256
flag_byte_low core h =
    let s : core.s < 2 = h.locations loc.S in let z : core.z < 2 = h.locations loc.Z in let ac : core.ac < 2 = h.locations loc.Ac in
    let p : core.p < 2 = h.locations loc.P in let cy : core.cy < 2 = h.locations loc.Cy in omega arith

keep_push_pair : (p : StackPair) (core : Core) → IsCore core → IsCore (push_pair p core)
unfolding push_pair
keep_push_pair stack.B core h = keep_push core.b core.c core (h.locations loc.B) (h.locations loc.C) h
keep_push_pair stack.D core h = keep_push core.d core.e core (h.locations loc.D) (h.locations loc.E) h
keep_push_pair stack.H core h = keep_push core.h core.l core (h.locations loc.H) (h.locations loc.L) h
keep_push_pair stack.Psw core h = keep_push core.a (flag_byte core) core (h.locations loc.A) (flag_byte_low core h) h

bit_low : (v : ℕ) → v % 2 < 2
bit_low v = omega arith

keep_flag_byte : (y : ℕ) (core : Core) → IsCore core → IsCore (with_flag_byte y core)
unfolding with_flag_byte
keep_flag_byte y core h =
    flag_s _ _ (bit_low (y / 128)) (flag_z _ _ (bit_low (y / 64)) (flag_ac _ _ (bit_low (y / 16)) (flag_p _ _ (bit_low (y / 4)) (flag_cy _ _ (bit_low y) h))))

keep_top : (p : StackPair) (core : Core) → IsCore core → IsCore (top_to p core)
unfolding top_to
keep_top stack.B core h = keep_pair pair.B _ core h
keep_top stack.D core h = keep_pair pair.D _ core h
keep_top stack.H core h = keep_pair pair.H _ core h
keep_top stack.Psw core h = keep_a _ _ (low_cell (core.sp + 1) core h) (keep_flag_byte _ core h)

keep_pop : (p : StackPair) (core : Core) → IsCore core → IsCore (pop_pair p core)
unfolding pop_pair
keep_pop p core h = keep-with_sp _ _ (keep_top p core h)

keep_call : (length w : ℕ) (core : Core) → IsCore core → IsCore (call length w core)
unfolding call
keep_call length w core h = keep-with_pc _ _ (keep_push _ _ core (omega arith) (omega arith) h)

keep_ret : (core : Core) → IsCore core → IsCore (ret core)
unfolding ret
keep_ret core h = keep-with_sp _ _ (keep-with_pc _ _ h)

keep_exchange_top : (core : Core) → IsCore core → IsCore (exchange_top core)
unfolding exchange_top
keep_exchange_top core h =
    keep_h _ _ (low_cell (core.sp + 1) core h) (keep_l _ _ (low_cell core.sp core h) (keep-with_cell _ _ _ (h.locations loc.H) (keep-with_cell _ _ _ (h.locations loc.L) h)))

keep_exchange_pairs : (core : Core) → IsCore core → IsCore (exchange_pairs core)
unfolding exchange_pairs
keep_exchange_pairs core h =
    keep_h _ _ (h.locations loc.D) (keep_l _ _ (h.locations loc.E) (keep_d _ _ (h.locations loc.H) (keep_e _ _ (h.locations loc.L) h)))

keep_choice : (b : Bool) (k m : Core) → IsCore k → IsCore m → IsCore (cond b k m)
keep_choice true k m h g = h
keep_choice false k m h g = g

pub only_byte : (n : ℕ) → All (λ byte. byte < 256) (n ∷ []) → n < 256
only_byte n bytes = bytes 0 0 (lit< tt)

-- every row of the table
pub effects_keep_cores : EffectsKeepCores
unfolding effect
effects_keep_cores input (Mov to from) core low bytes h = keep-advance _ _ (keep_arg to _ core (low_arg from core h) h)
effects_keep_cores input (Mvi to n) core low bytes h = keep-advance _ _ (keep_arg to n core (only_byte n bytes) h)
effects_keep_cores input (Inr y) core low bytes h = keep-advance _ _ (keep_increase y core h)
effects_keep_cores input (Dcr y) core low bytes h = keep-advance _ _ (keep_decrease y core h)
effects_keep_cores input (Alu o y) core low bytes h = keep-advance _ _ (keep_alu o _ core (low_arg y core h) h)
effects_keep_cores input (AluImmediate o n) core low bytes h = keep-advance _ _ (keep_alu o n core (only_byte n bytes) h)
effects_keep_cores input (Lxi p w) core low bytes h = keep-advance _ _ (keep_pair p w core h)
effects_keep_cores input (Dad p) core low bytes h = keep-advance _ _ (keep_add_pair p core h)
effects_keep_cores input (Inx p) core low bytes h = keep-advance _ _ (keep_pair p _ core h)
effects_keep_cores input (Dcx p) core low bytes h = keep-advance _ _ (keep_pair p _ core h)
effects_keep_cores input (Stax p) core low bytes h = keep-advance _ _ (keep-with_cell _ _ core (h.locations loc.A) h)
effects_keep_cores input (Ldax p) core low bytes h = keep-advance _ _ (keep_a _ core (low_cell (pair_of p core) core h) h)
effects_keep_cores input (Shld w) core low bytes h = keep-advance _ _ (keep-with_cell _ _ _ (h.locations loc.H) (keep-with_cell _ _ core (h.locations loc.L) h))
effects_keep_cores input (Lhld w) core low bytes h = keep-advance _ _ (keep_h _ _ (low_cell (w + 1) core h) (keep_l _ core (low_cell w core h) h))
effects_keep_cores input (Sta w) core low bytes h = keep-advance _ _ (keep-with_cell _ _ core (h.locations loc.A) h)
effects_keep_cores input (Lda w) core low bytes h = keep-advance _ _ (keep_a _ core (low_cell w core h) h)
effects_keep_cores input Rlc core low bytes h = let a : core.a < 256 = h.locations loc.A in keep-advance _ _ (keep_rotate _ _ core (omega arith) (omega arith) h)
effects_keep_cores input Rrc core low bytes h = let a : core.a < 256 = h.locations loc.A in keep-advance _ _ (keep_rotate _ _ core (omega arith) (omega arith) h)
effects_keep_cores input Ral core low bytes h = let a : core.a < 256 = h.locations loc.A in let c : core.cy < 2 = h.locations loc.Cy in keep-advance _ _ (keep_rotate _ _ core (omega arith) (omega arith) h)
effects_keep_cores input Rar core low bytes h = let a : core.a < 256 = h.locations loc.A in let c : core.cy < 2 = h.locations loc.Cy in keep-advance _ _ (keep_rotate _ _ core (omega arith) (omega arith) h)
effects_keep_cores input Daa core low bytes h = keep-advance _ _ (keep_adjust core h)
effects_keep_cores input Cma core low bytes h = keep-advance _ _ (keep_a _ core (omega arith) h)
effects_keep_cores input Stc core low bytes h = keep-advance _ _ (flag_cy 1 core (lit< tt) h)
effects_keep_cores input Cmc core low bytes h = keep-advance _ _ (flag_cy _ core (omega arith) h)
effects_keep_cores input (Push p) core low bytes h = keep-advance _ _ (keep_push_pair p core h)
effects_keep_cores input (Pop p) core low bytes h = keep-advance _ _ (keep_pop p core h)
effects_keep_cores input (Jmp w) core low bytes h = keep-with_pc w core h
effects_keep_cores input (Jcc when w) core low bytes h = keep_choice (holds when core) _ _ (keep-with_pc w core h) (keep-advance 3 core h)
effects_keep_cores input (Call w) core low bytes h = keep_call 3 w core h
effects_keep_cores input (Ccc when w) core low bytes h = keep_choice (holds when core) _ _ (keep_call 3 w core h) (keep-advance 3 core h)
effects_keep_cores input Ret core low bytes h = keep_ret core h
effects_keep_cores input (Rcc when) core low bytes h = keep_choice (holds when core) _ _ (keep_ret core h) (keep-advance 1 core h)
effects_keep_cores input (Rst n) core low bytes h = keep_call 1 (8 * n) core h
effects_keep_cores input Pchl core low bytes h = keep-with_pc _ core h
effects_keep_cores input Sphl core low bytes h = keep-advance _ _ (keep-with_sp _ core h)
effects_keep_cores input Xthl core low bytes h = keep-advance _ _ (keep_exchange_top core h)
effects_keep_cores input Xchg core low bytes h = keep-advance _ _ (keep_exchange_pairs core h)
effects_keep_cores input (In n) core low bytes h = keep-advance _ _ (keep_a input core low h)
effects_keep_cores input (Out n) core low bytes h = keep-advance _ _ h
effects_keep_cores input Nop core low bytes h = keep-advance _ _ h
effects_keep_cores input Ei core low bytes h = keep-advance _ _ h
effects_keep_cores input Di core low bytes h = keep-advance _ _ h
effects_keep_cores input Hlt core low bytes h = keep-with_halted true core h

abbrev Low : ℕ → Type 0
Low byte = byte < 256

no_byte : All Low []
no_byte = All-nil Low

one_byte : (n : ℕ) → n < 256 → All (λ byte. byte < 256) (n ∷ [])
one_byte n low = All-cons Low n [] low no_byte

two_bytes : (b1 b2 : ℕ) → b1 < 256 → b2 < 256 → All (λ byte. byte < 256) (bytes_of (b1 + 256 * b2))
two_bytes b1 b2 low1 low2 =
    All-cons Low ((b1 + 256 * b2) % 256) ((b1 + 256 * b2) / 256 ∷ []) (omega arith) (one_byte ((b1 + 256 * b2) / 256) (omega arith))

pub operand_low : (b1 b2 : ℕ) → b1 < 256 → b2 < 256 → (i : Instr) → All (λ byte. byte < 256) (operand (with_operand b1 (b1 + 256 * b2) i).0)
operand_low b1 b2 low1 low2 (Mvi y n) = one_byte b1 low1
operand_low b1 b2 low1 low2 (AluImmediate o n) = one_byte b1 low1
operand_low b1 b2 low1 low2 (In n) = one_byte b1 low1
operand_low b1 b2 low1 low2 (Out n) = one_byte b1 low1
operand_low b1 b2 low1 low2 (Lxi p w) = two_bytes b1 b2 low1 low2
operand_low b1 b2 low1 low2 (Shld w) = two_bytes b1 b2 low1 low2
operand_low b1 b2 low1 low2 (Lhld w) = two_bytes b1 b2 low1 low2
operand_low b1 b2 low1 low2 (Sta w) = two_bytes b1 b2 low1 low2
operand_low b1 b2 low1 low2 (Lda w) = two_bytes b1 b2 low1 low2
operand_low b1 b2 low1 low2 (Jmp w) = two_bytes b1 b2 low1 low2
operand_low b1 b2 low1 low2 (Jcc when w) = two_bytes b1 b2 low1 low2
operand_low b1 b2 low1 low2 (Call w) = two_bytes b1 b2 low1 low2
operand_low b1 b2 low1 low2 (Ccc when w) = two_bytes b1 b2 low1 low2
operand_low b1 b2 low1 low2 i = no_byte

after_low : (input b1 b2 : ℕ) (core : Core) → input < 256 → b1 < 256 → b2 < 256 → IsCore core → (o : Option Instr) → IsCore (after input (option_map (with_operand b1 (b1 + 256 * b2)) o) core)
after_low input b1 b2 core low low1 low2 h None = h
after_low input b1 b2 core low low1 low2 h (Some i) = effects_keep_cores input _ core low (operand_low b1 b2 low1 low2 i) h

pub steps_keep_cores : StepsKeepCores
unfolding step decode
steps_keep_cores input core low h =
    keep_choice core.halted _ _ h
    (after_low input (cell (core.pc + 1) core) (cell (core.pc + 2) core) core low (low_cell (core.pc + 1) core h) (low_cell (core.pc + 2) core h) h (form (cell core.pc core)))

-- the operand bytes of what decodes from bytes are bytes
decoded_bytes : (b1 b2 : ℕ) → b1 < 256 → b2 < 256 → (o : Option Instr) (i : Instr) (n : ℕ) → option_map (with_operand b1 (b1 + 256 * b2)) o ≡ Some (i, n) → All (λ byte. byte < 256) (operand i)
decoded_bytes b1 b2 low1 low2 None i n e = absurd (none-some (i, n) e)
decoded_bytes b1 b2 low1 low2 (Some j) i n e =
    subst (λ j. All (λ byte. byte < 256) (operand j)) (ap (λ (p : Instr × ℕ). p.0) (same_Some _ _ e)) (operand_low b1 b2 low1 low2 j)

-- so are those of the instruction at an address
pub instr_at_bytes : (a : ℕ) (core : Core) (i : Instr) (n : ℕ) → IsCore core → instr_at a core ≡ Some (i, n) → All (λ byte. byte < 256) (operand i)
unfolding decode
instr_at_bytes a core i n h e =
    decoded_bytes (cell (a + 1) core) (cell (a + 2) core) (low_cell (a + 1) core h) (low_cell (a + 2) core h) (form (cell a core)) i n e
