-- One instruction keeps the machine's core the value of the symbolic state.
use Rattle.std.proofs.Common.{◌≡◌, ◌≢◌, ℕ, suc, ◌+◌, ◌-◌, ◌%◌, ◌/◌, ◌<◌, ◌≤◌, Bool, true, false, cond, length, refl, sym, ap, subst, List, [], ◌∷◌, ◌++◌, arith, pos, All, lit<}
use Rattle.std.specs.Prelude.{slice_index}
use Rattle.std.specs.List.{AllByRecursion}
use Rattle.std.proofs.lemmas.List.Elements.{recursion_from_All}
use Rattle.sp_base.specs.declared.location.Reg.TheVariants as reg
use Rattle.sp_base.specs.declared.location.Loc.{Loc}
use Rattle.sp_base.specs.declared.location.Loc.TheVariants as loc
use Rattle.sp_base.specs.declared.pair.Pair.{Pair}
use Rattle.sp_base.specs.declared.pair.Pair.TheVariants as pair
use Rattle.sp_isa.specs.declared.instr.Arg.{Arg}
use Rattle.sp_isa.specs.declared.instr.Arg.TheVariants as arg
use Rattle.sp_isa.specs.declared.instr.StackPair.{StackPair}
use Rattle.sp_isa.specs.declared.instr.Instr.{Instr}
use Rattle.sp_isa.specs.declared.instr.Instr.TheVariants.{Mov, Mvi, Inr, Dcr, Alu, AluImmediate, Lxi, Dad, Inx, Dcx, Stax, Ldax, Shld, Lhld, Sta, Lda, Rlc, Rrc, Ral, Rar, Daa, Cma, Stc, Cmc, Push, Pop, Jmp, Jcc, Call, Ccc, Ret, Rcc, Rst, Pchl, Sphl, Xthl, Xchg, In, Out, Nop, Ei, Di, Hlt}
use Rattle.sp_isa.specs.Code.{valid, operand}
use Rattle.sp_isa.specs.Core.{Core, IsCore, at, cell, with_reg, with_cell, with_sp, with_halted, advance}
use Rattle.sp_isa.specs.Operands.{pair_of, with_pair}
use Rattle.sp_isa.specs.Stack.{holds, pop_pair, exchange_top}
use Rattle.sp_isa.specs.Effect.{effect}
use Rattle.sp_isa.proofs.CoreLemmas.{low_arg}
use Rattle.sp_model.specs.Note.{Frame}
use Rattle.sp_term.specs.declared.var.Var.TheVariants as var
use Rattle.sp_term.specs.Value.{Env}
use Rattle.sp_trans.specs.Symbolic.{Word, Symbolic, number, pair_term, with_memory}
use Rattle.sp_trans.specs.Translation.{applied, element, next, with_cell_term, with_bytes, popped, top_exchanged}
use Rattle.sp_trans.specs.Meaning.{IsValueOf, HasPointer, HasForm, IsIn, addressed, arg_cells, IsInStack, Asks}
use Rattle.sp_trans.proofs.TermLemmas.{named, literal, plus, times, over, rest, minus, left}
use Rattle.sp_trans.proofs.ValueLemmas.{Fits, IsFree, IsOutside, not_in_stack, value_pc, value_advance, value_store, value_element, value_arg, value_with_arg}
use Rattle.sp_trans.proofs.RowLemmas.{to_reg, to_flag, value_alu, value_adjust, value_rotate, value_literal, value_add_pair, value_next, value_previous, value_exchange, value_increase, value_decrease, gives_arg, gives_pair, low_pair}
use Rattle.sp_trans.proofs.StackLemmas.{room_of_places, room_of_push, with_cell_at, long_cell, value_push_pair, value_pop, value_exchange_top}

only_byte : (n : ℕ) → All (λ byte. byte < 256) (n ∷ []) → n < 256
only_byte n bytes = bytes 0 0 (lit< tt)

low_word : (w : ℕ) → All (λ byte. byte < 256) (w % 256 ∷ w / 256 ∷ []) → w < 65536
low_word w bytes = let high : w / 256 < 256 = bytes 1 0 (lit< tt) in omega arith

next_low : (w : ℕ) → next w < 65536
next_low w = omega arith

pub value_choice : {f : Frame} {e : Env} {g : Symbolic} (b : Bool) {one two : Core} → IsValueOf f e g one → IsValueOf f e g two → IsValueOf f e g (cond b one two)
value_choice true h k = h
value_choice false h k = k

wrapped : (w : ℕ) → w % 65536 % 65536 ≡ w % 65536
wrapped w = omega arith

value_words_out : {f : Frame} {e : Env} {g : Symbolic} {core : Core} (w : ℕ) → Fits f (length g.slots) → length core.cells ≡ 65536 → IsFree f w → IsFree f (next w) → IsValueOf f e g core → IsValueOf f e (with_cell_term (number (next w)) g.h (with_cell_term (number w) g.l g)) (with_cell (w + 1) core.h (with_cell w core.l core))
unfolding with_cell_term with_memory
value_words_out {f = f} {e = e} {g = g} {core = core} w fits long a b h =
    let first = value_store f e g core (number w) g.l w core.l fits long a (literal w) (h.locations loc.L) h in
    let second = value_store f e _ (with_cell w core.l core) (number (next w)) g.h (next w) core.h fits (long_cell core w core.l a.0 long) b (literal (next w)) (h.locations loc.H) first in
    subst (IsValueOf f e _) (with_cell_at (next w) (w + 1) core.h _ (wrapped (w + 1))) second

value_words_in : {f : Frame} {e : Env} {g : Symbolic} {core : Core} (w : ℕ) → IsFree f w → IsFree f (next w) → IsValueOf f e g core → IsValueOf f e (with_bytes pair.H (element g (number (next w))) (element g (number w)) g) (with_reg reg.H (cell (w + 1) core) (with_reg reg.L (cell w core) core))
unfolding with_bytes
value_words_in {f = f} {e = e} {g = g} {core = core} w a b h =
    to_reg reg.H (named (ap (λ n. slice_index core.cells n) (wrapped (w + 1))) (value_element f e g core (number (next w)) (next w) b (literal (next w)) h))
    (to_reg reg.L (value_element f e g core (number w) w a (literal w) h) h)

halted_loc : (x : Loc) (b : Bool) (core : Core) → at x (with_halted b core) ≡ at x core
unfolding with_halted
halted_loc loc.A b core = refl
halted_loc x b core = refl

module _ {f : Frame} {e : Env} {g : Symbolic} {core : Core} where
  value_halted : (b : Bool) → IsValueOf f e g core → IsValueOf f e g (with_halted b core)
  unfolding with_halted
  value_halted b h = record { locations = λ x. named (sym (halted_loc x b core)) (h.locations x); memory = h.memory; slots = h.slots }

  on : (n : ℕ) → IsValueOf f e g core → IsValueOf f e g (advance n core)
  on n h = value_advance f e g core n h

-- ---- what is asked, form by form

abbrev AreOutside : Frame → List ℕ → Type 0
AreOutside f cells = AllByRecursion (λ a. ¬ IsInStack f a) cells

cells_outside : (f : Frame) (cells : List ℕ) → All (λ a. ¬ IsInStack f a) cells → AreOutside f cells
cells_outside f cells h = recursion_from_All (λ a. ¬ IsInStack f a) cells h

free : (f : Frame) (a : ℕ) → a < 65536 → ¬ IsInStack f a → IsFree f a
free f a low out = (low, not_in_stack a f out)

outside : (y : Arg) (f : Frame) (core : Core) → IsCore core → AreOutside f (arg_cells y core) → IsOutside f y core
outside (arg.Reg r) f core k h = tt
outside arg.M f core k h = free f (pair_of pair.H core) (low_pair pair.H core k) h.0

-- the cells of both operands of MOV
first_operand : (x y : Arg) (f : Frame) (core : Core) → AreOutside f (arg_cells x core ++ arg_cells y core) → AreOutside f (arg_cells x core)
first_operand (arg.Reg r) y f core h = tt
first_operand arg.M y f core h = (h.0, tt)

second_operand : (x y : Arg) (f : Frame) (core : Core) → AreOutside f (arg_cells x core ++ arg_cells y core) → AreOutside f (arg_cells y core)
second_operand (arg.Reg r) y f core h = h
second_operand arg.M y f core h = h.1

free_cell : (f : Frame) (a : ℕ) → a < 65536 → All (λ a. ¬ IsInStack f a) (a ∷ []) → IsFree f a
free_cell f a low h = free f a low (cells_outside f (a ∷ []) h).0

free_cells : (f : Frame) (a b : ℕ) → a < 65536 → b < 65536 → All (λ a. ¬ IsInStack f a) (a ∷ b ∷ []) → IsFree f a × IsFree f b
free_cells f a b low high h = let r = cells_outside f (a ∷ b ∷ []) h in (free f a low r.0, free f b high r.1.0)

stored_pair : (p : Pair) → valid (Stax p) ≡ true → p ≢ pair.Sp
stored_pair pair.B v e = cc
stored_pair pair.D v e = cc
stored_pair pair.H v e = cc
stored_pair pair.Sp v e = cc

loaded_pair : (p : Pair) → valid (Ldax p) ≡ true → p ≢ pair.Sp
loaded_pair pair.B v e = cc
loaded_pair pair.D v e = cc
loaded_pair pair.H v e = cc
loaded_pair pair.Sp v e = cc

added_pair : (p : Pair) → HasForm (Dad p) → p ≢ pair.Sp
added_pair pair.B h e = cc
added_pair pair.D h e = cc
added_pair pair.H h e = cc
added_pair pair.Sp h e = absurd h

increased_pair : (p : Pair) → HasForm (Inx p) → p ≢ pair.Sp
increased_pair pair.B h e = cc
increased_pair pair.D h e = cc
increased_pair pair.H h e = cc
increased_pair pair.Sp h e = absurd h

decreased_pair : (p : Pair) → HasForm (Dcx p) → p ≢ pair.Sp
decreased_pair pair.B h e = cc
decreased_pair pair.D h e = cc
decreased_pair pair.H h e = cc
decreased_pair pair.Sp h e = absurd h

-- LXI SP leaves all that a symbolic state has
sp_loc : (x : Loc) (w : ℕ) (core : Core) → at x (with_sp w core) ≡ at x core
unfolding with_sp
sp_loc loc.A w core = refl
sp_loc x w core = refl

pub value_sp : {f : Frame} {e : Env} {g : Symbolic} {core : Core} (w : ℕ) → IsValueOf f e g core → IsValueOf f e g (with_sp w core)
unfolding with_sp
value_sp {core = core} w h = record { locations = λ x. named (sym (sp_loc x w core)) (h.locations x); memory = h.memory; slots = h.slots }

value_lxi : (p : Pair) {f : Frame} {e : Env} {g : Symbolic} {core : Core} (w : ℕ) → w < 65536 → IsValueOf f e g core → IsValueOf f e (with_bytes p (number (w / 256)) (number (w % 256)) g) (with_pair p w core)
unfolding with_bytes with_pair
value_lxi pair.B w low h = value_literal pair.B (λ e. cc) w low h
value_lxi pair.D w low h = value_literal pair.D (λ e. cc) w low h
value_lxi pair.H w low h = value_literal pair.H (λ e. cc) w low h
value_lxi pair.Sp w low h = value_sp w h

-- ---- words on the stack

value_pop_any : (q : StackPair) (slots : List Word) {f : Frame} {e : Env} {g : Symbolic} {core : Core} → g.slots ≡ slots → 1 ≤ length slots → Fits f (length slots) → HasPointer f g core → IsCore core → IsValueOf f e g core → IsValueOf f e (popped q slots g) (pop_pair q core)
value_pop_any q [] is some fits points k h = absurd (omega arith)
value_pop_any q (top ∷ slots) {f = f} {e = e} {g = g} {core = core} is some fits points k h =
    let more : suc (length slots) ≡ length slots + 1 = omega arith in
    let room = subst (Fits f) more fits in
    value_pop q f e g core top slots k (room_of_places f (length slots) room.region room.places) is points h

value_xthl_any : (slots : List Word) {f : Frame} {e : Env} {g : Symbolic} {core : Core} → g.slots ≡ slots → 1 ≤ length slots → Fits f (length slots) → HasPointer f g core → IsCore core → IsValueOf f e g core → IsValueOf f e (top_exchanged slots g) (exchange_top core)
value_xthl_any [] is some fits points k h = absurd (omega arith)
value_xthl_any (top ∷ slots) {f = f} {e = e} {g = g} {core = core} is some fits points k h =
    let more : suc (length slots) ≡ length slots + 1 = omega arith in
    let room = subst (Fits f) more fits in
    value_exchange_top top slots (room_of_places f (length slots) room.region room.places) k is points h

fits_of : {f : Frame} {i : Instr} {g : Symbolic} {core : Core} → Asks f i g core → Fits f (length g.slots)
fits_of a = record { region = a.region; places = a.places }

pub translated : (i : Instr) (input j : ℕ) (f : Frame) (e : Env) (g : Symbolic) (core : Core) → IsCore core → All (λ byte. byte < 256) (operand i) → valid i ≡ true → Asks f i g core → (IsIn i → e.int (var.In j) ≡ pos input) → IsValueOf f e g core → IsValueOf f e (applied i j g) (effect input i core)
unfolding applied effect
translated (Mov to from) input j f e g core k bytes v a n h = let c = cells_outside f (addressed (Mov to from) core) a.cells in on 1 (value_with_arg to f e g core _ _ (fits_of a) k.memory (outside to f core k (first_operand to from f core c)) (value_arg from f e g core (outside from f core k (second_operand to from f core c)) h) h)
translated (Mvi to byte) input j f e g core k bytes v a n h = on 2 (value_with_arg to f e g core _ _ (fits_of a) k.memory (outside to f core k (cells_outside f (arg_cells to core) a.cells)) (literal byte) h)
translated (Inr y) input j f e g core k bytes v a n h = on 1 (value_increase y (fits_of a) k.memory (outside y f core k (cells_outside f (arg_cells y core) a.cells)) h)
translated (Dcr y) input j f e g core k bytes v a n h = on 1 (value_decrease y (fits_of a) k.memory (outside y f core k (cells_outside f (arg_cells y core) a.cells)) h)
translated (Alu o y) input j f e g core k bytes v a n h = on 1 (value_alu o k (low_arg y core k) (gives_arg y (outside y f core k (cells_outside f (arg_cells y core) a.cells)) h) h)
translated (AluImmediate o byte) input j f e g core k bytes v a n h = on 2 (value_alu o k (only_byte byte bytes) (literal byte) h)
translated (Lxi q w) input j f e g core k bytes v a n h = on 3 (value_lxi q w (low_word w bytes) h)
translated (Dad q) input j f e g core k bytes v a n h = on 1 (value_add_pair q (added_pair q a.form) k h)
translated (Inx q) input j f e g core k bytes v a n h = on 1 (value_next q (increased_pair q a.form) h)
translated (Dcx q) input j f e g core k bytes v a n h = on 1 (value_previous q (decreased_pair q a.form) h)
translated (Stax q) input j f e g core k bytes v a n h = on 1 (value_store f e g core (pair_term q g) g.a _ core.a (fits_of a) k.memory (free_cell f (pair_of q core) (low_pair q core k) a.cells) (gives_pair q (stored_pair q v) h) (h.locations loc.A) h)
translated (Ldax q) input j f e g core k bytes v a n h = on 1 (to_reg reg.A (value_element f e g core (pair_term q g) _ (free_cell f (pair_of q core) (low_pair q core k) a.cells) (gives_pair q (loaded_pair q v) h) h) h)
translated (Sta w) input j f e g core k bytes v a n h = on 3 (value_store f e g core (number w) g.a w core.a (fits_of a) k.memory (free_cell f w (low_word w bytes) a.cells) (literal w) (h.locations loc.A) h)
translated (Lda w) input j f e g core k bytes v a n h = on 3 (to_reg reg.A (value_element f e g core (number w) w (free_cell f w (low_word w bytes) a.cells) (literal w) h) h)
translated (Shld w) input j f e g core k bytes v a n h = let c = free_cells f w (next w) (low_word w bytes) (next_low w) a.cells in on 3 (value_words_out w (fits_of a) k.memory c.0 c.1 h)
translated (Lhld w) input j f e g core k bytes v a n h = let c = free_cells f w (next w) (low_word w bytes) (next_low w) a.cells in on 3 (value_words_in w c.0 c.1 h)
translated Rlc input j f e g core k bytes v a n h = let x = h.locations loc.A in on 1 (value_rotate (plus (rest 256 refl (times 2 x)) (over 128 x)) (over 128 x) h)
translated Rrc input j f e g core k bytes v a n h = let x = h.locations loc.A in on 1 (value_rotate (plus (over 2 x) (times 128 (rest 2 refl x))) (rest 2 refl x) h)
translated Ral input j f e g core k bytes v a n h = let x = h.locations loc.A in on 1 (value_rotate (plus (rest 256 refl (times 2 x)) (h.locations loc.Cy)) (over 128 x) h)
translated Rar input j f e g core k bytes v a n h = let x = h.locations loc.A in on 1 (value_rotate (plus (over 2 x) (times 128 (h.locations loc.Cy))) (rest 2 refl x) h)
translated Daa input j f e g core k bytes v a n h = on 1 (value_adjust k h)
translated Cma input j f e g core k bytes v a n h = let low = k.locations loc.A in on 1 (to_reg reg.A (left (omega (arith, low)) (minus (literal 255) (h.locations loc.A))) h)
translated Stc input j f e g core k bytes v a n h = on 1 (to_flag loc.Cy tt (literal 1) h)
translated Cmc input j f e g core k bytes v a n h = let low = k.locations loc.Cy in on 1 (to_flag loc.Cy tt (left (omega (arith, low)) (minus (literal 1) (h.locations loc.Cy))) h)
translated (Push q) input j f e g core k bytes v a n h =
    let points = a.pointer (λ sets. sets) in
    let room = a.room tt in
    on 1 (value_push_pair q f e g core (core.sp - 2) k (room_of_push f (length g.slots) core.sp a.region a.places points room.0 room.1) (omega (arith, room.0)) points h)
translated (Pop q) input j f e g core k bytes v a n h = on 1 (value_pop_any q g.slots refl a.words (fits_of a) (a.pointer (λ sets. sets)) k h)
translated Xthl input j f e g core k bytes v a n h = on 1 (value_xthl_any g.slots refl a.words (fits_of a) (a.pointer (λ sets. sets)) k h)
translated Xchg input j f e g core k bytes v a n h = on 1 (value_exchange h)
translated (Jmp w) input j f e g core k bytes v a n h = value_pc f e g core w h
translated (Jcc when w) input j f e g core k bytes v a n h = value_choice (holds when core) (value_pc f e g core w h) (on 3 h)
translated Ret input j f e g core k bytes v a n h = absurd a.form
translated (Rcc when) input j f e g core k bytes v a n h = absurd a.form
translated (Call w) input j f e g core k bytes v a n h = absurd a.form
translated (Ccc when w) input j f e g core k bytes v a n h = absurd a.form
translated (Rst q) input j f e g core k bytes v a n h = absurd a.form
translated Pchl input j f e g core k bytes v a n h = absurd a.form
translated Sphl input j f e g core k bytes v a n h = absurd a.form
translated (In port) input j f e g core k bytes v a n h = on 2 (to_reg reg.A (record { is = n tt }) h)
translated (Out port) input j f e g core k bytes v a n h = on 2 h
translated Nop input j f e g core k bytes v a n h = on 1 h
translated Ei input j f e g core k bytes v a n h = on 1 h
translated Di input j f e g core k bytes v a n h = on 1 h
translated Hlt input j f e g core k bytes v a n h = value_halted true h
