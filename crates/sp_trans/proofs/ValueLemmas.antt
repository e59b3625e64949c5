-- Each part of the machine that changes against each part of the symbolic state that changes.
use Rattle.std.proofs.Common.{◌≡◌, ℕ, ◌+◌, ◌*◌, ◌-◌, ◌/◌, ◌%◌, ◌<◌, ◌≤◌, ◌≢◌, Bool, true, false, cond, List, [], ◌∷◌, length, refl, sym, ap, subst, ◌∙◌, arith, pos, negsuc, ℤ, get_or-set_other, get_or-set_same}
use Rattle.std.specs.Prelude.{slice_index, slice_set, nat_eq, nat_le, unsigned_abs, ◌&&◌, ⊤}
use Rattle.std.specs.Ordering.{int_eq}
use Rattle.std.specs.Cmp.{signed_Decides}
use Rattle.std.proofs.lemmas.Bool.Decides.{nat_tests}
use Rattle.sp_base.specs.declared.location.Reg.{Reg}
use Rattle.sp_base.specs.declared.location.Reg.TheVariants as reg
use Rattle.sp_base.specs.declared.location.Loc.{Loc}
use Rattle.sp_base.specs.declared.location.Loc.TheVariants as loc
use Rattle.sp_base.specs.declared.pair.Pair.TheVariants as pair
use Rattle.sp_base.specs.Integers.{quotient, remainder}
use Rattle.sp_base.specs.Location.{loc_of}
use Rattle.sp_isa.specs.declared.instr.Arg.{Arg}
use Rattle.sp_isa.specs.declared.instr.Arg.TheVariants as arg
use Rattle.sp_isa.specs.Core.{Core, IsCore, IsFlag, at, reg_of, cell, with_reg, with_flag, with_cell, with_pc, with_sp, advance}
use Rattle.sp_isa.specs.Operands.{pair_of, arg_of, with_arg}
use Rattle.sp_model.specs.Note.{Frame, shown, stack_address}
use Rattle.sp_term.specs.Tree.{Tree, Add, Multiply, Divide, Remainder, Element, Update}
use Rattle.sp_term.specs.Value.{Env, int_of, map_of, updated}
use Rattle.sp_trans.specs.TreeEquality.{same_tree}
use Rattle.sp_trans.specs.Symbolic.{Word, Symbolic, term_at, with_term, with_memory, with_slots, number, is_small, divided, joined, pair_term}
use Rattle.sp_trans.specs.Translation.{arg_term, with_cell_term, with_arg_term}
use Rattle.sp_trans.specs.Meaning.{Gives, IsWordAt, AreWords, IsValueOf, IsInStack, HasPlaces}
use Rattle.sp_trans.proofs.EqualityLemmas.{same}
use Rattle.sp_trans.proofs.TermLemmas.{named, same_gives, plus, times}

-- a term in place of a register or a flag
loc_reg : (r : Reg) (x : Loc) (e : Env) (g : Symbolic) (core : Core) (t : Tree) (v : ℕ) → Gives e t v → Gives e (term_at x g) (at x core) → Gives e (term_at x (with_term (loc_of r) t g)) (at x (with_reg r v core))
unfolding with_term with_reg
loc_reg reg.B loc.B e g core t v h k = h
loc_reg reg.B x e g core t v h k = k
loc_reg reg.C loc.C e g core t v h k = h
loc_reg reg.C x e g core t v h k = k
loc_reg reg.D loc.D e g core t v h k = h
loc_reg reg.D x e g core t v h k = k
loc_reg reg.E loc.E e g core t v h k = h
loc_reg reg.E x e g core t v h k = k
loc_reg reg.H loc.H e g core t v h k = h
loc_reg reg.H x e g core t v h k = k
loc_reg reg.L loc.L e g core t v h k = h
loc_reg reg.L x e g core t v h k = k
loc_reg reg.A loc.A e g core t v h k = h
loc_reg reg.A x e g core t v h k = k

loc_flag : (y x : Loc) → IsFlag y → (e : Env) (g : Symbolic) (core : Core) (t : Tree) (v : ℕ) → Gives e t v → Gives e (term_at x g) (at x core) → Gives e (term_at x (with_term y t g)) (at x (with_flag y v core))
unfolding with_term with_flag
loc_flag loc.S loc.S i e g core t v h k = h
loc_flag loc.S x i e g core t v h k = k
loc_flag loc.Z loc.Z i e g core t v h k = h
loc_flag loc.Z x i e g core t v h k = k
loc_flag loc.Ac loc.Ac i e g core t v h k = h
loc_flag loc.Ac x i e g core t v h k = k
loc_flag loc.P loc.P i e g core t v h k = h
loc_flag loc.P x i e g core t v h k = k
loc_flag loc.Cy loc.Cy i e g core t v h k = h
loc_flag loc.Cy x i e g core t v h k = k
loc_flag y x i e g core t v h k = absurd i

-- what a part of the state shares with the rest
pub record SameStack (g g' : Symbolic) (core core' : Core) : Type 0 where
  pub memory : g'.memory ≡ g.memory
  pub slots : g'.slots ≡ g.slots
  pub cells : core'.cells ≡ core.cells

reg_stack : (r : Reg) (t : Tree) (v : ℕ) (g : Symbolic) (core : Core) → SameStack g (with_term (loc_of r) t g) core (with_reg r v core)
unfolding with_term with_reg
reg_stack reg.B t v g core = record { memory = refl; slots = refl; cells = refl }
reg_stack r t v g core = record { memory = refl; slots = refl; cells = refl }

flag_stack : (y : Loc) (t : Tree) (v : ℕ) (g : Symbolic) (core : Core) → SameStack g (with_term y t g) core (with_flag y v core)
unfolding with_term with_flag
flag_stack loc.S t v g core = record { memory = refl; slots = refl; cells = refl }
flag_stack y t v g core = record { memory = refl; slots = refl; cells = refl }

same_stack : (f : Frame) (e : Env) (g g' : Symbolic) (core core' : Core) → SameStack g g' core core' → ((x : Loc) → Gives e (term_at x g') (at x core')) → IsValueOf f e g core → IsValueOf f e g' core'
same_stack f e g g' core core' same now h = record {
  locations = now;
  memory = λ z. ap (λ m. map_of e m z) same.memory ∙ h.memory z ∙ ap (λ cells. shown f cells z) (sym same.cells);
  slots = subst (λ cells. AreWords f e g'.slots cells) (sym same.cells) (subst (λ slots. AreWords f e slots core.cells) (sym same.slots) h.slots);
}

pub value_reg : (f : Frame) (e : Env) (g : Symbolic) (core : Core) (r : Reg) (t : Tree) (v : ℕ) → Gives e t v → IsValueOf f e g core → IsValueOf f e (with_term (loc_of r) t g) (with_reg r v core)
value_reg f e g core r t v is h = same_stack f e g _ core _ (reg_stack r t v g core) (λ x. loc_reg r x e g core t v is (h.locations x)) h

pub value_flag : (f : Frame) (e : Env) (g : Symbolic) (core : Core) (y : Loc) (t : Tree) (v : ℕ) → IsFlag y → Gives e t v → IsValueOf f e g core → IsValueOf f e (with_term y t g) (with_flag y v core)
value_flag f e g core y t v flag is h = same_stack f e g _ core _ (flag_stack y t v g core) (λ x. loc_flag y x flag e g core t v is (h.locations x)) h

loc_pc : (x : Loc) (v : ℕ) (core : Core) → at x (with_pc v core) ≡ at x core
unfolding with_pc
loc_pc loc.A v core = refl
loc_pc x v core = refl

pc_stack : (v : ℕ) (g : Symbolic) (core : Core) → SameStack g g core (with_pc v core)
unfolding with_pc
pc_stack v g core = record { memory = refl; slots = refl; cells = refl }

pub value_pc : (f : Frame) (e : Env) (g : Symbolic) (core : Core) (v : ℕ) → IsValueOf f e g core → IsValueOf f e g (with_pc v core)
value_pc f e g core v h = same_stack f e g g core _ (pc_stack v g core) (λ x. named (sym (loc_pc x v core)) (h.locations x)) h

pub value_advance : (f : Frame) (e : Env) (g : Symbolic) (core : Core) (n : ℕ) → IsValueOf f e g core → IsValueOf f e g (advance n core)
unfolding advance
value_advance f e g core n h = value_pc f e g core (core.pc + n) h

-- ---- memory
abbrev pub is_in_stack : ℕ → Frame → Bool
is_in_stack a f = nat_le f.first a && nat_le a f.last

pub not_in_stack : (a : ℕ) (f : Frame) → ¬ IsInStack f a → is_in_stack a f ≡ false
not_in_stack a f h = by (is_in_stack a f) refl
  where
    by : (b : Bool) → is_in_stack a f ≡ b → b ≡ false
    by true is = absurd (h (let low : f.first ≤ a = grind (arith, nat_tests) in let high : a ≤ f.last = grind (arith, nat_tests) in (low, high)))
    by false is = refl

-- an address of memory outside the stack region
abbrev pub IsFree : Frame → ℕ → Type 0
IsFree f a = (a < 65536) × (is_in_stack a f ≡ false)

-- an operand whose cell, if it has one, is free
abbrev pub IsOutside : Frame → Arg → Core → Type 0
IsOutside f (arg.Reg r) core = ⊤
IsOutside f arg.M core = IsFree f (pair_of pair.H core)

same_place : (a : ℕ) → int_eq (pos a) (pos a) ≡ true
same_place a = (signed_Decides (pos a) (pos a)).1 refl

other_place : (a w : ℕ) → a ≢ w → int_eq (pos a) (pos w) ≡ false
other_place a w h = grind (arith, nat_tests)

updated_other : (f : Frame) (cells : List ℕ) (w v a : ℕ) → a ≢ w → updated (shown f cells) (pos w) (pos v) (pos a) ≡ shown f (slice_set cells w v) (pos a)
updated_other f cells w v a h =
    ap (λ b. cond b (pos v) (shown f cells (pos a))) (other_place a w h)
    ∙ ap (λ n. cond (is_in_stack a f) (pos 0) (pos n)) (sym (get_or-set_other cells w a v 0 h))

updated_same : (f : Frame) (cells : List ℕ) (w v : ℕ) → w < length cells → is_in_stack w f ≡ false → updated (shown f cells) (pos w) (pos v) (pos w) ≡ shown f (slice_set cells w v) (pos w)
updated_same f cells w v h out =
    ap (λ b. cond b (pos v) (shown f cells (pos w))) (same_place w)
    ∙ sym (ap (λ b. cond b (pos 0) (pos (slice_index (slice_set cells w v) w))) out ∙ ap pos (get_or-set_same cells w v 0 h))

updated_pos : (f : Frame) (cells : List ℕ) (w v a : ℕ) → w < length cells → is_in_stack w f ≡ false → updated (shown f cells) (pos w) (pos v) (pos a) ≡ shown f (slice_set cells w v) (pos a)
updated_pos f cells w v a h out =
    elim (nat_eq a w) as (λ b. nat_eq a w ≡ b → updated (shown f cells) (pos w) (pos v) (pos a) ≡ shown f (slice_set cells w v) (pos a)) [
      | true ↦ λ e. let same : a ≡ w = grind (arith, nat_tests) in subst (λ n. updated (shown f cells) (pos w) (pos v) (pos n) ≡ shown f (slice_set cells w v) (pos n)) (sym same) (updated_same f cells w v h out)
      | false ↦ λ e. let other : a ≢ w = grind (arith, nat_tests) in updated_other f cells w v a other
    ] refl

pub updated_shown : (f : Frame) (cells : List ℕ) (w v : ℕ) (z : ℤ) → w < length cells → is_in_stack w f ≡ false → updated (shown f cells) (pos w) (pos v) z ≡ shown f (slice_set cells w v) z
updated_shown f cells w v (pos a) h out = updated_pos f cells w v a h out
updated_shown f cells w v (negsuc a) h out = refl

pub outside : (w a : ℕ) (f : Frame) → is_in_stack w f ≡ false → f.first ≤ a → a ≤ f.last → a ≢ w
outside w a f h low high = grind (arith, nat_tests)

-- the place of the k-th word, as an address
pub place : (f : Frame) (n k : ℕ) → f.last < 65535 → HasPlaces f n → 1 ≤ k → k ≤ n → stack_address f k % 65536 ≡ f.base - 2 * k
place f n k region places some less = let here = places k some less in omega (arith, here.0, here.1)

pub place_high : (f : Frame) (n k : ℕ) → f.last < 65535 → HasPlaces f n → 1 ≤ k → k ≤ n → (stack_address f k + 1) % 65536 ≡ f.base - 2 * k + 1
place_high f n k region places some less = let here = places k some less in omega (arith, here.0, here.1)

kept_word : (f : Frame) (e : Env) (word : Word) (cells : List ℕ) (n w v k : ℕ) → f.last < 65535 → HasPlaces f n → k < n → w < 65536 → is_in_stack w f ≡ false → IsWordAt e word (stack_address f (k + 1)) cells → IsWordAt e word (stack_address f (k + 1)) (slice_set cells w v)
kept_word f e word cells n w v k region places less low out h =
    let here = places (k + 1) (omega arith) (omega arith) in
    let floor : f.first + 2 * (k + 1) ≤ f.base = here.0 in
    let ceiling : f.base < f.last + 2 * (k + 1) = here.1 in
    let one : stack_address f (k + 1) % 65536 ≡ f.base - 2 * (k + 1) = place f n (k + 1) region places (omega arith) (omega arith) in
    let two : (stack_address f (k + 1) + 1) % 65536 ≡ f.base - 2 * (k + 1) + 1 = place_high f n (k + 1) region places (omega arith) (omega arith) in
    record {
      low = named (sym (get_or-set_other cells w _ v 0 (λ same. outside w (f.base - 2 * (k + 1)) f out (omega arith) (omega arith) (sym one ∙ same)))) h.low;
      high = named (sym (get_or-set_other cells w _ v 0 (λ same. outside w (f.base - 2 * (k + 1) + 1) f out (omega arith) (omega arith) (sym two ∙ same)))) h.high;
    }

kept_words : (f : Frame) (e : Env) (words : List Word) (cells : List ℕ) (n w v : ℕ) → f.last < 65535 → HasPlaces f n → length words ≤ n → w < 65536 → is_in_stack w f ≡ false → AreWords f e words cells → AreWords f e words (slice_set cells w v)
kept_words f e [] cells n w v region places less low out h = tt
kept_words f e (word ∷ words) cells n w v region places less low out h =
    (kept_word f e word cells n w v (length words) region places (omega arith) low out h.0, kept_words f e words cells n w v region places (omega arith) low out h.1)

pub cell_loc : (x : Loc) (w v : ℕ) (core : Core) → at x (with_cell w v core) ≡ at x core
unfolding with_cell
cell_loc loc.A w v core = refl
cell_loc x w v core = refl

memory_loc : (x : Loc) (t : Tree) (g : Symbolic) → term_at x (with_memory t g) ≡ term_at x g
unfolding with_memory
memory_loc loc.A t g = refl
memory_loc x t g = refl

low_address : (w : ℕ) → w < 65536 → w % 65536 ≡ w
low_address w h = omega arith

pub with_cell_cells : (w v : ℕ) (core : Core) → w < 65536 → (with_cell w v core).cells ≡ slice_set core.cells w v
unfolding with_cell
with_cell_cells w v core h = ap (λ a. slice_set core.cells a v) (low_address w h)

memory_parts : (t : Tree) (g : Symbolic) → ((with_memory t g).memory ≡ t) × ((with_memory t g).slots ≡ g.slots)
unfolding with_memory
memory_parts t g = (refl, refl)

update_map : (e : Env) (m a t : Tree) (f : Frame) (cells : List ℕ) (w v : ℕ) (z : ℤ) → ((z : ℤ) → map_of e m z ≡ shown f cells z) → Gives e a w → Gives e t v → map_of e (Update m a t) z ≡ updated (shown f cells) (pos w) (pos v) z
update_map e m a t f cells w v z h ha ht = ap (λ n. cond (int_eq z n) (int_of e t) (map_of e m z)) ha.is ∙ ap (λ n. cond (int_eq z (pos w)) n (map_of e m z)) ht.is ∙ ap (λ n. cond (int_eq z (pos w)) (pos v) n) (h z)

pub cell_sp : (w v : ℕ) (core : Core) → (with_cell w v core).sp ≡ core.sp
unfolding with_cell
cell_sp w v core = refl

-- the words of the state have places that the frame's region holds
pub record Fits (f : Frame) (n : ℕ) : Type 0 where
  pub region : f.last < 65535
  pub places : HasPlaces f n

pub value_store : (f : Frame) (e : Env) (g : Symbolic) (core : Core) (a t : Tree) (w v : ℕ) → Fits f (length g.slots) → length core.cells ≡ 65536 → IsFree f w → Gives e a w → Gives e t v → IsValueOf f e g core → IsValueOf f e (with_cell_term a t g) (with_cell w v core)
unfolding with_cell_term
value_store f e g core a t w v fits long free ha ht h =
    let parts = memory_parts (Update g.memory a t) g in
    let now = with_cell_cells w v core free.0 in
    let low = free.0 in
    record {
      locations = λ x. same_gives (memory_loc x (Update g.memory a t) g) (sym (cell_loc x w v core)) (h.locations x);
      memory = λ z. ap (λ m. map_of e m z) parts.0 ∙ update_map e g.memory a t f core.cells w v z h.memory ha ht ∙ updated_shown f core.cells w v z (omega arith) free.1 ∙ ap (λ cells. shown f cells z) (sym now);
      slots = subst (λ cells. AreWords f e (with_memory (Update g.memory a t) g).slots cells) (sym now) (subst (λ slots. AreWords f e slots (slice_set core.cells w v)) (sym parts.1) (kept_words f e g.slots core.cells (length g.slots) w v fits.region fits.places (omega arith) low free.1 h.slots));
    }

-- ---- reading
pub shown_cell : (f : Frame) (cells : List ℕ) (w : ℕ) → w < 65536 → is_in_stack w f ≡ false → shown f cells (pos w) ≡ pos (slice_index cells (w % 65536))
shown_cell f cells w low out = ap (λ b. cond b (pos 0) (pos (slice_index cells w))) out ∙ ap (λ a. pos (slice_index cells a)) (sym (low_address w low))

pub value_element : (f : Frame) (e : Env) (g : Symbolic) (core : Core) (a : Tree) (w : ℕ) → IsFree f w → Gives e a w → IsValueOf f e g core → Gives e (Element g.memory a) (cell w core)
value_element f e g core a w free is h = record { is = ap (map_of e g.memory) is.is ∙ h.memory (pos w) ∙ shown_cell f core.cells w free.0 free.1 }

undone : (z : ℤ) (m n : ℕ) → quotient z (pos 256) ≡ pos m → remainder z (pos 256) ≡ pos n → z ≡ pos (256 * m + n)
undone (pos a) m n h k = let high : a / 256 ≡ m = ap unsigned_abs h in let low : a % 256 ≡ n = ap unsigned_abs k in ap pos (omega arith)
undone (negsuc a) m n h k = cc

-- the test that two terms are the quotient and the remainder of one
undo_or_not : (x y z : Tree) (a b c : Bool) {e : Env} {m n : ℕ} → same_tree x (Divide z (number 256)) ≡ b → same_tree y (Remainder z (number 256)) ≡ c → Gives e x m → Gives e y n → Gives e (cond (a && (b && c)) z (Add (Multiply (number 256) x) y)) (256 * m + n)
undo_or_not x y z true true true {e = e} {m = m} {n = n} p q h k = record { is = undone (int_of e z) m n (sym (ap (int_of e) (same x (Divide z (number 256)) p)) ∙ h.is) (sym (ap (int_of e) (same y (Remainder z (number 256)) q)) ∙ k.is) }
undo_or_not x y z a b c p q h k = plus (times 256 h) k

pub joined_gives : {e : Env} {x y : Tree} {m n : ℕ} → Gives e x m → Gives e y n → Gives e (joined x y) (256 * m + n)
unfolding joined
joined_gives {x = x} {y = y} h k = undo_or_not x y (divided x) (is_small (divided x)) _ _ refl refl h k

reg_value : (r : Reg) (f : Frame) (e : Env) (g : Symbolic) (core : Core) → IsValueOf f e g core → Gives e (term_at (loc_of r) g) (reg_of r core)
reg_value reg.B f e g core h = h.locations loc.B
reg_value reg.C f e g core h = h.locations loc.C
reg_value reg.D f e g core h = h.locations loc.D
reg_value reg.E f e g core h = h.locations loc.E
reg_value reg.H f e g core h = h.locations loc.H
reg_value reg.L f e g core h = h.locations loc.L
reg_value reg.A f e g core h = h.locations loc.A

pub hl_low : (core : Core) → IsCore core → pair_of pair.H core < 65536
hl_low core h = let high = h.locations loc.H in let low = h.locations loc.L in omega (arith, high, low)

pub value_hl : (f : Frame) (e : Env) (g : Symbolic) (core : Core) → IsValueOf f e g core → Gives e (pair_term pair.H g) (pair_of pair.H core)
unfolding pair_term
value_hl f e g core h = joined_gives (h.locations loc.H) (h.locations loc.L)

pub value_arg : (y : Arg) (f : Frame) (e : Env) (g : Symbolic) (core : Core) → IsOutside f y core → IsValueOf f e g core → Gives e (arg_term y g) (arg_of y core)
unfolding arg_term
value_arg (arg.Reg r) f e g core out h = reg_value r f e g core h
value_arg arg.M f e g core out h = value_element f e g core (pair_term pair.H g) (pair_of pair.H core) out (value_hl f e g core h) h

pub value_with_arg : (y : Arg) (f : Frame) (e : Env) (g : Symbolic) (core : Core) (t : Tree) (v : ℕ) → Fits f (length g.slots) → length core.cells ≡ 65536 → IsOutside f y core → Gives e t v → IsValueOf f e g core → IsValueOf f e (with_arg_term y t g) (with_arg y v core)
unfolding with_arg_term with_arg
value_with_arg (arg.Reg r) f e g core t v fits k out is h = value_reg f e g core r t v is h
value_with_arg arg.M f e g core t v fits k out is h = value_store f e g core (pair_term pair.H g) t (pair_of pair.H core) v fits k out (value_hl f e g core h) is h

moved_loc : (x : Loc) (slots : List Word) (g : Symbolic) (v : ℕ) (core : Core) {e : Env} → Gives e (term_at x g) (at x core) → Gives e (term_at x (with_slots slots g)) (at x (with_sp v core))
unfolding with_slots with_sp
moved_loc loc.A slots g v core h = h
moved_loc x slots g v core h = h

-- other words and another stack pointer
pub value_moved : (f : Frame) (e : Env) (g : Symbolic) (core : Core) (slots : List Word) (v : ℕ) → AreWords f e slots core.cells → IsValueOf f e g core → IsValueOf f e (with_slots slots g) (with_sp v core)
unfolding with_slots with_sp
value_moved f e g core slots v now h = record { locations = λ x. moved_loc x slots g v core (h.locations x); memory = h.memory; slots = now }
