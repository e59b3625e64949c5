-- Where each instruction leads.
use Rattle.std.proofs.Common.{◌≡◌, ◌∙◌, ap, refl, ℕ, ◌+◌, ◌-◌, ◌*◌, ◌/◌, ◌%◌, Bool, true, false, List, [], ◌∷◌, get_or-set_other}
use Rattle.std.specs.Prelude.{slice_set, slice_index, if◌then◌else◌}
use Rattle.sp_base.specs.declared.location.Reg.{Reg}
use Rattle.sp_base.specs.declared.location.Reg.TheVariants as reg
use Rattle.sp_base.specs.declared.location.Loc.{Loc}
use Rattle.sp_base.specs.declared.location.Loc.TheVariants as loc
use Rattle.sp_base.specs.declared.pair.Pair.{Pair}
use Rattle.sp_base.specs.declared.pair.Pair.TheVariants as pair
use Rattle.sp_isa.specs.declared.instr.Arg.{Arg}
use Rattle.sp_isa.specs.declared.instr.Arg.TheVariants as arg
use Rattle.sp_isa.specs.declared.instr.StackPair.{StackPair}
use Rattle.sp_isa.specs.declared.instr.StackPair.TheVariants as stack
use Rattle.sp_isa.specs.declared.instr.Op.{Op}
use Rattle.sp_isa.specs.declared.instr.Op.TheVariants as op
use Rattle.sp_isa.specs.declared.instr.Instr.{Instr}
use Rattle.sp_isa.specs.declared.instr.Instr.TheVariants.{Mov, Mvi, Inr, Dcr, Alu, AluImmediate, Lxi, Dad, Inx, Dcx, Stax, Ldax, Shld, Lhld, Sta, Lda, Rlc, Rrc, Ral, Rar, Daa, Cma, Stc, Cmc, Push, Pop, Jmp, Jcc, Call, Ccc, Ret, Rcc, Rst, Pchl, Sphl, Xthl, Xchg, In, Out, Nop, Ei, Di, Hlt}
use Rattle.sp_isa.specs.Core.{Core, cell, word, with_reg, with_flag, with_cell, with_sp, with_pc, with_halted, advance}
use Rattle.sp_isa.specs.Operands.{pair_of, with_pair, arg_of, with_arg}
use Rattle.sp_isa.specs.Arithmetic.{with_szp, add, compare, subtract, logic, alu, increase, decrease, add_pair, adjust, rotate}
use Rattle.sp_isa.specs.Stack.{push, with_flag_byte, push_pair, top_to, pop_pair, holds, call, ret, exchange_top, exchange_pairs}
use Rattle.sp_isa.specs.Effect.{effect}
use Rattle.sp_isa.specs.Outcome.{pc_after, sp_after, halted_after, written, to_arg, pushes_pair, stores, Leads, InstructionsLead, IsApart, OtherCellsStay}

-- what a core has besides its registers and flags
pub record Holds (counter top : ℕ) (rests : Bool) (memory : List ℕ) (core : Core) : Type 0 where
  pub pc : core.pc ≡ counter
  pub sp : core.sp ≡ top
  pub halted : core.halted ≡ rests
  pub cells : core.cells ≡ memory

own : (core : Core) → Holds core.pc core.sp core.halted core.cells core
own core = record { pc = refl; sp = refl; halted = refl; cells = refl }

holds-with_reg : (r : Reg) (v : ℕ) {pc sp : ℕ} {halted : Bool} {cells : List ℕ} {core : Core} → Holds pc sp halted cells core → Holds pc sp halted cells (with_reg r v core)
unfolding with_reg
holds-with_reg reg.B v h = record { pc = h.pc; sp = h.sp; halted = h.halted; cells = h.cells }
holds-with_reg r v h = record { pc = h.pc; sp = h.sp; halted = h.halted; cells = h.cells }

holds-with_flag : (x : Loc) (v : ℕ) {pc sp : ℕ} {halted : Bool} {cells : List ℕ} {core : Core} → Holds pc sp halted cells core → Holds pc sp halted cells (with_flag x v core)
unfolding with_flag
holds-with_flag loc.S v h = record { pc = h.pc; sp = h.sp; halted = h.halted; cells = h.cells }
holds-with_flag loc.Z v h = record { pc = h.pc; sp = h.sp; halted = h.halted; cells = h.cells }
holds-with_flag loc.Ac v h = record { pc = h.pc; sp = h.sp; halted = h.halted; cells = h.cells }
holds-with_flag loc.P v h = record { pc = h.pc; sp = h.sp; halted = h.halted; cells = h.cells }
holds-with_flag loc.Cy v h = record { pc = h.pc; sp = h.sp; halted = h.halted; cells = h.cells }
holds-with_flag x v h = h

holds-with_sp : (v : ℕ) {pc sp : ℕ} {halted : Bool} {cells : List ℕ} {core : Core} → Holds pc sp halted cells core → Holds pc (v % 65536) halted cells (with_sp v core)
unfolding with_sp
holds-with_sp v h = record { pc = h.pc; sp = refl; halted = h.halted; cells = h.cells }

holds-with_pc : (v : ℕ) {pc sp : ℕ} {halted : Bool} {cells : List ℕ} {core : Core} → Holds pc sp halted cells core → Holds (v % 65536) sp halted cells (with_pc v core)
unfolding with_pc
holds-with_pc v h = record { pc = refl; sp = h.sp; halted = h.halted; cells = h.cells }

holds-advance : (n : ℕ) {pc sp : ℕ} {halted : Bool} {cells : List ℕ} {core : Core} → Holds pc sp halted cells core → Holds ((pc + n) % 65536) sp halted cells (advance n core)
unfolding advance with_pc
holds-advance n h = record { pc = ap (λ a. (a + n) % 65536) h.pc; sp = h.sp; halted = h.halted; cells = h.cells }

holds-with_cell : (a v : ℕ) {pc sp : ℕ} {halted : Bool} {cells : List ℕ} {core : Core} → Holds pc sp halted cells core → Holds pc sp halted (slice_set cells (a % 65536) v) (with_cell a v core)
unfolding with_cell
holds-with_cell a v h = record { pc = h.pc; sp = h.sp; halted = h.halted; cells = ap (λ (xs : List ℕ). slice_set xs (a % 65536) v) h.cells }

holds_szp : (r : ℕ) {pc sp : ℕ} {halted : Bool} {cells : List ℕ} {core : Core} → Holds pc sp halted cells core → Holds pc sp halted cells (with_szp r core)
unfolding with_szp
holds_szp r h = holds-with_flag loc.S _ (holds-with_flag loc.Z _ (holds-with_flag loc.P _ h))

holds_compare : (y b : ℕ) (core : Core) → Holds core.pc core.sp core.halted core.cells (compare y b core)
unfolding compare
holds_compare y b core = holds_szp _ (holds-with_flag loc.Cy _ (holds-with_flag loc.Ac _ (own core)))

holds_add : (y c : ℕ) (core : Core) → Holds core.pc core.sp core.halted core.cells (add y c core)
unfolding add
holds_add y c core = holds-with_reg reg.A _ (holds_szp _ (holds-with_flag loc.Cy _ (holds-with_flag loc.Ac _ (own core))))

holds_subtract : (y b : ℕ) (core : Core) → Holds core.pc core.sp core.halted core.cells (subtract y b core)
unfolding subtract
holds_subtract y b core = holds-with_reg reg.A _ (holds_compare y b core)

holds_logic : (r c : ℕ) (core : Core) → Holds core.pc core.sp core.halted core.cells (logic r c core)
unfolding logic
holds_logic r c core = holds-with_reg reg.A r (holds_szp r (holds-with_flag loc.Cy 0 (holds-with_flag loc.Ac c (own core))))

holds_alu : (o : Op) (y : ℕ) (core : Core) → Holds core.pc core.sp core.halted core.cells (alu o y core)
unfolding alu
holds_alu op.Add y core = holds_add y 0 core
holds_alu op.Adc y core = holds_add y core.cy core
holds_alu op.Sub y core = holds_subtract y 0 core
holds_alu op.Sbb y core = holds_subtract y core.cy core
holds_alu op.Ana y core = holds_logic _ _ core
holds_alu op.Xra y core = holds_logic _ _ core
holds_alu op.Ora y core = holds_logic _ _ core
holds_alu op.Cmp y core = holds_compare y 0 core

-- a pair of registers, and the stack pointer
abbrev sp_of : Pair → ℕ → ℕ → ℕ
sp_of pair.Sp w sp = w % 65536
sp_of p w sp = sp

holds_pair : (p : Pair) (w : ℕ) {pc sp : ℕ} {halted : Bool} {cells : List ℕ} {core : Core} → Holds pc sp halted cells core → Holds pc (sp_of p w sp) halted cells (with_pair p w core)
unfolding with_pair
holds_pair pair.B w h = holds-with_reg reg.B _ (holds-with_reg reg.C _ h)
holds_pair pair.D w h = holds-with_reg reg.D _ (holds-with_reg reg.E _ h)
holds_pair pair.H w h = holds-with_reg reg.H _ (holds-with_reg reg.L _ h)
holds_pair pair.Sp w h = holds-with_sp w h

holds_arg : (y : Arg) (v : ℕ) (core : Core) → Holds core.pc core.sp core.halted (written (to_arg y v core) core.cells) (with_arg y v core)
unfolding with_arg
holds_arg (arg.Reg r) v core = holds-with_reg r v (own core)
holds_arg arg.M v core = holds-with_cell (pair_of pair.H core) v (own core)

-- an operand that is changed after S, Z, P and AC
holds_stepped : (y : Arg) (r c : ℕ) (core : Core) → Holds core.pc core.sp core.halted (written (to_arg y r core) core.cells) (with_arg y r (with_szp r (with_flag loc.Ac c core)))
unfolding with_szp with_flag with_arg
holds_stepped (arg.Reg q) r c core = holds-with_reg q r (record { pc = refl; sp = refl; halted = refl; cells = refl })
holds_stepped arg.M r c core = holds-with_cell (pair_of pair.H core) r (record { pc = refl; sp = refl; halted = refl; cells = refl })

holds_push : (high low : ℕ) (core : Core) → Holds core.pc ((core.sp + 65534) % 65536) core.halted (slice_set (slice_set core.cells ((core.sp + 65535) % 65536) high) ((core.sp + 65534) % 65536) low) (push high low core)
unfolding push
holds_push high low core = holds-with_sp _ (holds-with_cell _ low (holds-with_cell _ high (own core)))

holds_push_pair : (p : StackPair) (core : Core) → Holds core.pc ((core.sp + 65534) % 65536) core.halted (written (pushes_pair p core) core.cells) (push_pair p core)
unfolding push_pair
holds_push_pair stack.B core = holds_push _ _ core
holds_push_pair stack.D core = holds_push _ _ core
holds_push_pair stack.H core = holds_push _ _ core
holds_push_pair stack.Psw core = holds_push _ _ core

holds_flag_byte : (y : ℕ) {pc sp : ℕ} {halted : Bool} {cells : List ℕ} {core : Core} → Holds pc sp halted cells core → Holds pc sp halted cells (with_flag_byte y core)
unfolding with_flag_byte
holds_flag_byte y h = holds-with_flag loc.S _ (holds-with_flag loc.Z _ (holds-with_flag loc.Ac _ (holds-with_flag loc.P _ (holds-with_flag loc.Cy _ h))))

holds_top : (p : StackPair) (core : Core) → Holds core.pc core.sp core.halted core.cells (top_to p core)
unfolding top_to
holds_top stack.B core = holds_pair pair.B _ (own core)
holds_top stack.D core = holds_pair pair.D _ (own core)
holds_top stack.H core = holds_pair pair.H _ (own core)
holds_top stack.Psw core = holds-with_reg reg.A _ (holds_flag_byte _ (own core))

holds_pop : (p : StackPair) (core : Core) → Holds core.pc ((core.sp + 2) % 65536) core.halted core.cells (pop_pair p core)
unfolding pop_pair
holds_pop p core = holds-with_sp _ (holds_top p core)

holds_call : (n w : ℕ) (core : Core) → Holds (w % 65536) ((core.sp + 65534) % 65536) core.halted
    (slice_set (slice_set core.cells ((core.sp + 65535) % 65536) ((core.pc + n) % 65536 / 256)) ((core.sp + 65534) % 65536) ((core.pc + n) % 65536 % 256)) (call n w core)
unfolding call
holds_call n w core = holds-with_pc w (holds_push _ _ core)

holds_ret : (core : Core) → Holds (word core.sp core % 65536) ((core.sp + 2) % 65536) core.halted core.cells (ret core)
unfolding ret
holds_ret core = holds-with_sp _ (holds-with_pc _ (own core))

holds_exchange_top : (core : Core) → Holds core.pc core.sp core.halted (slice_set (slice_set core.cells (core.sp % 65536) core.l) ((core.sp + 1) % 65536) core.h) (exchange_top core)
unfolding exchange_top
holds_exchange_top core = holds-with_reg reg.H _ (holds-with_reg reg.L _ (holds-with_cell _ core.h (holds-with_cell _ core.l (own core))))

holds_exchange_pairs : (core : Core) → Holds core.pc core.sp core.halted core.cells (exchange_pairs core)
unfolding exchange_pairs
holds_exchange_pairs core = holds-with_reg reg.H _ (holds-with_reg reg.L _ (holds-with_reg reg.D _ (holds-with_reg reg.E _ (own core))))

holds_add_pair : (p : Pair) (core : Core) → Holds core.pc core.sp core.halted core.cells (add_pair p core)
unfolding add_pair
holds_add_pair p core = holds_pair pair.H _ (holds-with_flag loc.Cy _ (own core))

holds_adjust : (core : Core) → Holds core.pc core.sp core.halted core.cells (adjust core)
unfolding adjust
holds_adjust core = holds-with_reg reg.A _ (holds_szp _ (holds-with_flag loc.Cy _ (holds-with_flag loc.Ac _ (own core))))

holds_rotate : (r c : ℕ) (core : Core) → Holds core.pc core.sp core.halted core.cells (rotate r c core)
unfolding rotate
holds_rotate r c core = holds-with_reg reg.A r (holds-with_flag loc.Cy c (own core))

-- by whether a condition holds
holds_choice : (b : Bool) (pc pc' sp sp' : ℕ) (halted : Bool) (cells cells' : List ℕ) (k l : Core) → Holds pc sp halted cells k → Holds pc' sp' halted cells' l
    → Holds (if b then pc else pc') (if b then sp else sp') halted (if b then cells else cells') (if b then k else l)
holds_choice true pc pc' sp sp' halted cells cells' k l h g = h
holds_choice false pc pc' sp sp' halted cells cells' k l h g = g

-- a jump moves neither the stack pointer nor a cell
same_branches : (b : Bool) (pc sp : ℕ) (halted : Bool) (cells : List ℕ) (k : Core) → Holds pc (if b then sp else sp) halted (if b then cells else cells) k → Holds pc sp halted cells k
same_branches true pc sp halted cells k h = h
same_branches false pc sp halted cells k h = h

-- nor does a return change a cell
same_cells : (b : Bool) (pc sp : ℕ) (halted : Bool) (cells : List ℕ) (k : Core) → Holds pc sp halted (if b then cells else cells) k → Holds pc sp halted cells k
same_cells true pc sp halted cells k h = h
same_cells false pc sp halted cells k h = h

-- the writes of a call that may not be taken
written_branch : (b : Bool) (pc sp : ℕ) (halted : Bool) (writes : List (ℕ × ℕ)) (cells : List ℕ) (k : Core) → Holds pc sp halted (if b then written writes cells else cells) k
    → Holds pc sp halted (written (if b then writes else []) cells) k
written_branch true pc sp halted writes cells k h = h
written_branch false pc sp halted writes cells k h = h

holds_increase : (y : Arg) (core : Core) → Holds core.pc core.sp core.halted (written (to_arg y ((arg_of y core + 1) % 256) core) core.cells) (increase y core)
unfolding increase
holds_increase y core = holds_stepped y _ _ core

holds_decrease : (y : Arg) (core : Core) → Holds core.pc core.sp core.halted (written (to_arg y ((arg_of y core + 255) % 256) core) core.cells) (decrease y core)
unfolding decrease
holds_decrease y core = holds_stepped y _ _ core

holds-with_halted : (v : Bool) {pc sp : ℕ} {halted : Bool} {cells : List ℕ} {core : Core} → Holds pc sp halted cells core → Holds pc sp v cells (with_halted v core)
unfolding with_halted
holds-with_halted v h = record { pc = h.pc; sp = h.sp; halted = refl; cells = h.cells }

lxi_sp : (p : Pair) (w : ℕ) (core : Core) {pc : ℕ} {halted : Bool} {cells : List ℕ} {k : Core} → Holds pc (sp_of p w core.sp) halted cells k → Holds pc (sp_after (Lxi p w) core) halted cells k
lxi_sp pair.Sp w core h = h
lxi_sp p w core h = h

inx_sp : (p : Pair) (core : Core) {pc : ℕ} {halted : Bool} {cells : List ℕ} {k : Core} → Holds pc (sp_of p (pair_of p core + 1) core.sp) halted cells k → Holds pc (sp_after (Inx p) core) halted cells k
inx_sp pair.Sp core h = h
inx_sp p core h = h

dcx_sp : (p : Pair) (core : Core) {pc : ℕ} {halted : Bool} {cells : List ℕ} {k : Core} → Holds pc (sp_of p (pair_of p core + 65535) core.sp) halted cells k → Holds pc (sp_after (Dcx p) core) halted cells k
dcx_sp pair.Sp core h = h
dcx_sp p core h = h

leads : (i : Instr) (old new : Core) → Holds (pc_after i old) (sp_after i old) (halted_after i old) (written (stores i old) old.cells) new → Leads i old new
leads i old new h = record { pc = h.pc; sp = h.sp; halted = h.halted; cells = h.cells }

-- every row of the table
pub instructions_lead : InstructionsLead
unfolding effect
instructions_lead input (Mov to from) core = leads (Mov to from) core _ (holds-advance 1 (holds_arg to (arg_of from core) core))
instructions_lead input (Mvi to n) core = leads (Mvi to n) core _ (holds-advance 2 (holds_arg to n core))
instructions_lead input (Inr y) core = leads (Inr y) core _ (holds-advance 1 (holds_increase y core))
instructions_lead input (Dcr y) core = leads (Dcr y) core _ (holds-advance 1 (holds_decrease y core))
instructions_lead input (Alu o y) core = leads (Alu o y) core _ (holds-advance 1 (holds_alu o (arg_of y core) core))
instructions_lead input (AluImmediate o n) core = leads (AluImmediate o n) core _ (holds-advance 2 (holds_alu o n core))
instructions_lead input (Lxi p w) core = leads (Lxi p w) core _ (lxi_sp p w core (holds-advance 3 (holds_pair p w (own core))))
instructions_lead input (Dad p) core = leads (Dad p) core _ (holds-advance 1 (holds_add_pair p core))
instructions_lead input (Inx p) core = leads (Inx p) core _ (inx_sp p core (holds-advance 1 (holds_pair p (pair_of p core + 1) (own core))))
instructions_lead input (Dcx p) core = leads (Dcx p) core _ (dcx_sp p core (holds-advance 1 (holds_pair p (pair_of p core + 65535) (own core))))
instructions_lead input (Stax p) core = leads (Stax p) core _ (holds-advance 1 (holds-with_cell (pair_of p core) core.a (own core)))
instructions_lead input (Ldax p) core = leads (Ldax p) core _ (holds-advance 1 (holds-with_reg reg.A (cell (pair_of p core) core) (own core)))
instructions_lead input (Shld w) core = leads (Shld w) core _ (holds-advance 3 (holds-with_cell (w + 1) core.h (holds-with_cell w core.l (own core))))
instructions_lead input (Lhld w) core = leads (Lhld w) core _ (holds-advance 3 (holds-with_reg reg.H (cell (w + 1) core) (holds-with_reg reg.L (cell w core) (own core))))
instructions_lead input (Sta w) core = leads (Sta w) core _ (holds-advance 3 (holds-with_cell w core.a (own core)))
instructions_lead input (Lda w) core = leads (Lda w) core _ (holds-advance 3 (holds-with_reg reg.A (cell w core) (own core)))
instructions_lead input Rlc core = leads Rlc core _ (holds-advance 1 (holds_rotate _ _ core))
instructions_lead input Rrc core = leads Rrc core _ (holds-advance 1 (holds_rotate _ _ core))
instructions_lead input Ral core = leads Ral core _ (holds-advance 1 (holds_rotate _ _ core))
instructions_lead input Rar core = leads Rar core _ (holds-advance 1 (holds_rotate _ _ core))
instructions_lead input Daa core = leads Daa core _ (holds-advance 1 (holds_adjust core))
instructions_lead input Cma core = leads Cma core _ (holds-advance 1 (holds-with_reg reg.A (255 - core.a) (own core)))
instructions_lead input Stc core = leads Stc core _ (holds-advance 1 (holds-with_flag loc.Cy 1 (own core)))
instructions_lead input Cmc core = leads Cmc core _ (holds-advance 1 (holds-with_flag loc.Cy (1 - core.cy) (own core)))
instructions_lead input (Push p) core = leads (Push p) core _ (holds-advance 1 (holds_push_pair p core))
instructions_lead input (Pop p) core = leads (Pop p) core _ (holds-advance 1 (holds_pop p core))
instructions_lead input (Jmp w) core = leads (Jmp w) core _ (holds-with_pc w (own core))
instructions_lead input (Jcc when w) core =
    leads (Jcc when w) core _ (same_branches (holds when core) _ core.sp core.halted core.cells _ (holds_choice (holds when core) _ _ _ _ _ _ _ _ _ (holds-with_pc w (own core)) (holds-advance 3 (own core))))
instructions_lead input (Call w) core = leads (Call w) core _ (holds_call 3 w core)
instructions_lead input (Ccc when w) core =
    leads (Ccc when w) core _ (written_branch (holds when core) _ _ core.halted _ core.cells _ (holds_choice (holds when core) _ _ _ _ _ _ _ _ _ (holds_call 3 w core) (holds-advance 3 (own core))))
instructions_lead input Ret core = leads Ret core _ (holds_ret core)
instructions_lead input (Rcc when) core =
    leads (Rcc when) core _ (same_cells (holds when core) _ _ _ core.cells _ (holds_choice (holds when core) _ _ _ _ _ _ _ _ _ (holds_ret core) (holds-advance 1 (own core))))
instructions_lead input (Rst n) core = leads (Rst n) core _ (holds_call 1 (8 * n) core)
instructions_lead input Pchl core = leads Pchl core _ (holds-with_pc _ (own core))
instructions_lead input Sphl core = leads Sphl core _ (holds-advance 1 (holds-with_sp (pair_of pair.H core) (own core)))
instructions_lead input Xthl core = leads Xthl core _ (holds-advance 1 (holds_exchange_top core))
instructions_lead input Xchg core = leads Xchg core _ (holds-advance 1 (holds_exchange_pairs core))
instructions_lead input (In n) core = leads (In n) core _ (holds-advance 2 (holds-with_reg reg.A input (own core)))
instructions_lead input (Out n) core = leads (Out n) core _ (holds-advance 2 (own core))
instructions_lead input Nop core = leads Nop core _ (holds-advance 1 (own core))
instructions_lead input Ei core = leads Ei core _ (holds-advance 1 (own core))
instructions_lead input Di core = leads Di core _ (holds-advance 1 (own core))
instructions_lead input Hlt core = leads Hlt core _ (holds-with_halted true (own core))

-- a byte that isn't written stays
apart : (a : ℕ) (writes : List (ℕ × ℕ)) (cells : List ℕ) → IsApart a writes → slice_index (written writes cells) (a % 65536) ≡ slice_index cells (a % 65536)
apart a [] cells h = refl
apart a (w ∷ writes) cells h = apart a writes (slice_set cells (w.0 % 65536) w.1) h.1 ∙ get_or-set_other cells (w.0 % 65536) (a % 65536) w.1 0 h.0

pub other_cells_stay : OtherCellsStay
other_cells_stay input i core a h =
    ap (λ (xs : List ℕ). slice_index xs (a % 65536)) (instructions_lead input i core).cells ∙ apart a (stores i core) core.cells h
