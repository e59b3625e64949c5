-- PUSH, POP and XTHL against the words of the symbolic state.
use Rattle.std.proofs.Common.{◌≡◌, ◌≢◌, ℕ, zero, suc, ◌+◌, ◌*◌, ◌/◌, ◌%◌, ◌<◌, ◌≤◌, Bool, true, false, cond, List, [], ◌∷◌, length, refl, sym, ap, subst, ◌∙◌, arith, pos, negsuc, ℤ, get_or-set_other, get_or-set_same, length-set}
use Rattle.std.specs.Prelude.{slice_index, slice_set}
use Rattle.std.proofs.lemmas.Bool.Decides.{nat_tests}
use Rattle.sp_base.specs.declared.location.Reg.TheVariants as reg
use Rattle.sp_base.specs.declared.location.Loc.{Loc}
use Rattle.sp_base.specs.declared.location.Loc.TheVariants as loc
use Rattle.sp_isa.specs.declared.instr.StackPair.{StackPair}
use Rattle.sp_isa.specs.declared.instr.StackPair.TheVariants as stack
use Rattle.sp_isa.specs.Core.{Core, IsCore, at, cell, with_cell, with_sp}
use Rattle.sp_isa.specs.Operands.{with_pair}
use Rattle.sp_isa.specs.Stack.{push, flag_byte, with_flag_byte, push_pair, top_to, pop_pair, exchange_top}
use Rattle.sp_isa.proofs.Cases.{each_loc}
use Rattle.sp_model.specs.Note.{Frame, shown, stack_address}
use Rattle.sp_term.specs.Tree.{Tree}
use Rattle.sp_term.specs.Value.{Env}
use Rattle.sp_trans.specs.Symbolic.{Word, Symbolic, term_at, with_slots, with_term}
use Rattle.sp_trans.specs.Translation.{pushed, with_bytes, with_flag_bits, with_top, popped, top_exchanged}
use Rattle.sp_trans.specs.Meaning.{Gives, AreWords, IsValueOf, HasPointer, HasPlaces}
use Rattle.sp_trans.proofs.TermLemmas.{named, bit_of, flags_byte}
use Rattle.sp_trans.proofs.RowLemmas.{to_reg, to_flag}
use Rattle.sp_trans.proofs.ValueLemmas.{is_in_stack, value_moved, cell_loc, with_cell_cells}

-- the words lie in the stack region, below its end
pub record HasRoom (f : Frame) (words : ℕ) : Type 0 where
  pub floor : f.first + 2 * words ≤ f.base
  pub ceiling : f.base ≤ f.last + 1
  pub region : f.last < 65535

pub room_of_places : (f : Frame) (n : ℕ) → f.last < 65535 → HasPlaces f (n + 1) → HasRoom f (n + 1)
room_of_places f n region places =
    let low = places (n + 1) (omega arith) (omega arith) in
    let high = places 1 (omega arith) (omega arith) in
    record { floor = low.0; ceiling = omega (arith, high.1); region = region }

-- the room of one more word
pub room_of_push : (f : Frame) (n sp : ℕ) → f.last < 65535 → HasPlaces f n → sp + 2 * n ≡ f.base → f.first + 2 ≤ sp → sp ≤ f.last + 1 → HasRoom f (n + 1)
room_of_push f zero sp region places points low high = record { floor = omega arith; ceiling = omega arith; region = region }
room_of_push f (suc n) sp region places points low high =
    let top = places 1 (omega arith) (omega arith) in
    record { floor = omega arith; ceiling = omega (arith, top.1); region = region }

slot_cell : (cells : List ℕ) (w v a : ℕ) → a % 65536 ≢ w → slice_index (slice_set cells w v) (a % 65536) ≡ slice_index cells (a % 65536)
slot_cell cells w v a h = get_or-set_other cells w (a % 65536) v 0 h

pub in_stack_true : (a : ℕ) (f : Frame) → f.first ≤ a → a ≤ f.last → is_in_stack a f ≡ true
in_stack_true a f low high = grind (arith, nat_tests)

-- a write in the stack region isn't seen
unseen_pos : (f : Frame) (cells : List ℕ) (w v a : ℕ) (b : Bool) → is_in_stack w f ≡ true → is_in_stack a f ≡ b → shown f (slice_set cells w v) (pos a) ≡ shown f cells (pos a)
unseen_pos f cells w v a true within is = ap (λ b. cond b (pos 0) (pos (slice_index (slice_set cells w v) a))) is ∙ sym (ap (λ b. cond b (pos 0) (pos (slice_index cells a))) is)
unseen_pos f cells w v a false within is =
    let other : a ≢ w = λ e. let clash : is_in_stack w f ≡ false = subst (λ n. is_in_stack n f ≡ false) e is in cc in
    ap (λ n. cond (is_in_stack a f) (pos 0) (pos n)) (get_or-set_other cells w a v 0 other)

pub unseen : (f : Frame) (cells : List ℕ) (w v : ℕ) (z : ℤ) → is_in_stack w f ≡ true → shown f (slice_set cells w v) z ≡ shown f cells z
unseen f cells w v (pos a) within = unseen_pos f cells w v a (is_in_stack a f) within refl
unseen f cells w v (negsuc a) within = refl

-- words above it stay
words_stay : (f : Frame) (e : Env) (slots : List Word) (cells : List ℕ) (n w v : ℕ) → HasRoom f n → length slots ≤ n → w + 2 * n < f.base → AreWords f e slots cells → AreWords f e slots (slice_set cells w v)
words_stay f e [] cells n w v room less below h = tt
words_stay f e (slot ∷ slots) cells n w v room less below h =
    let floor = room.floor in
    let ceiling = room.ceiling in
    let region = room.region in (
      record {
        low = named (sym (slot_cell cells w v (stack_address f (length slots + 1)) (omega arith))) h.0.low;
        high = named (sym (slot_cell cells w v (stack_address f (length slots + 1) + 1) (omega arith))) h.0.high;
      },
      words_stay f e slots cells n w v room (omega arith) below h.1,
    )

pub stack_write : (f : Frame) (e : Env) (g : Symbolic) (core : Core) (w v : ℕ) → HasRoom f (length g.slots) → w < 65536 → is_in_stack w f ≡ true → w + 2 * length g.slots < f.base → IsValueOf f e g core → IsValueOf f e g (with_cell w v core)
stack_write f e g core w v room low within below h =
    let now = with_cell_cells w v core low in
    record {
      locations = λ x. named (sym (cell_loc x w v core)) (h.locations x);
      memory = λ z. h.memory z ∙ sym (unseen f core.cells w v z within) ∙ ap (λ cells. shown f cells z) (sym now);
      slots = subst (λ cells. AreWords f e g.slots cells) (sym now) (words_stay f e g.slots core.cells (length g.slots) w v room (omega arith) below h.slots);
    }

cell_same : (core : Core) (w a v : ℕ) → w < 65536 → w ≡ a % 65536 → length core.cells ≡ 65536 → slice_index (with_cell w v core).cells (a % 65536) ≡ v
cell_same core w a v low is long = ap (λ cells. slice_index cells (a % 65536)) (with_cell_cells w v core low) ∙ ap (λ n. slice_index (slice_set core.cells w v) n) (sym is) ∙ get_or-set_same core.cells w v 0 (omega arith)

cell_other : (core : Core) (w a v : ℕ) → w < 65536 → a % 65536 ≢ w → slice_index (with_cell w v core).cells (a % 65536) ≡ slice_index core.cells (a % 65536)
cell_other core w a v low ne = ap (λ cells. slice_index cells (a % 65536)) (with_cell_cells w v core low) ∙ get_or-set_other core.cells w (a % 65536) v 0 ne

-- a core with two bytes written at plain addresses
abbrev pub put : ℕ → ℕ → ℕ → Core → Core
put sp high low core = with_cell sp low (with_cell (sp + 1) high core)

pub long_cell : (core : Core) (w v : ℕ) → w < 65536 → length core.cells ≡ 65536 → length (with_cell w v core).cells ≡ 65536
long_cell core w v low long = ap (λ (cells : List ℕ). length cells) (with_cell_cells w v core low) ∙ length-set core.cells w v ∙ long

pub value_pushed : (f : Frame) (e : Env) (g : Symbolic) (core : Core) (v sp high low : ℕ) (slot : Word) → HasRoom f (length g.slots + 1) → length core.cells ≡ 65536 → sp + 2 * (length g.slots + 1) ≡ f.base → Gives e slot.high high → Gives e slot.low low → IsValueOf f e g core → IsValueOf f e (with_slots (slot ∷ g.slots) g) (with_sp v (put sp high low core))
value_pushed f e g core v sp high low slot room long at hh hl h =
    let floor = room.floor in
    let ceiling = room.ceiling in
    let region = room.region in
    let less : HasRoom f (length g.slots) = record { floor = omega arith; ceiling = omega arith; region = region } in
    let first = stack_write f e g core (sp + 1) high less (omega arith) (in_stack_true (sp + 1) f (omega arith) (omega arith)) (omega arith) h in
    let second = stack_write f e g (with_cell (sp + 1) high core) sp low less (omega arith) (in_stack_true sp f (omega arith) (omega arith)) (omega arith) first in
    value_moved f e g _ (slot ∷ g.slots) v (
      record {
        low = named (sym (cell_same (with_cell (sp + 1) high core) sp (stack_address f (length g.slots + 1)) low (omega arith) (omega arith) (long_cell core (sp + 1) high (omega arith) long))) hl;
        high = named (sym (cell_other (with_cell (sp + 1) high core) sp (stack_address f (length g.slots + 1) + 1) low (omega arith) (omega arith) ∙ cell_same core (sp + 1) (stack_address f (length g.slots + 1) + 1) high (omega arith) (omega arith) long)) hh;
      },
      second.slots,
    ) second

pub with_cell_at : (a b v : ℕ) (core : Core) → a % 65536 ≡ b % 65536 → with_cell a v core ≡ with_cell b v core
unfolding with_cell
with_cell_at a b v core h = ap (λ n. record core { cells = slice_set core.cells n v }) h

pub push_is : (sp high low : ℕ) (core : Core) → core.sp ≡ sp + 2 → sp < 65534 → push high low core ≡ with_sp (core.sp + 65534) (put sp high low core)
unfolding push
push_is sp high low core is small =
    ap (λ c. with_sp (core.sp + 65534) (with_cell (core.sp + 65534) low c)) (with_cell_at (core.sp + 65535) (sp + 1) high core (omega arith))
    ∙ ap (with_sp (core.sp + 65534)) (with_cell_at (core.sp + 65534) sp low _ (omega arith))

value_push : (f : Frame) (e : Env) (g : Symbolic) (core : Core) (sp high low : ℕ) (slot : Word) → HasRoom f (length g.slots + 1) → length core.cells ≡ 65536 → core.sp ≡ sp + 2 → HasPointer f g core → Gives e slot.high high → Gives e slot.low low → IsValueOf f e g core → IsValueOf f e (with_slots (slot ∷ g.slots) g) (push high low core)
value_push f e g core sp high low slot room long is points hh hl h =
    let floor = room.floor in
    let ceiling = room.ceiling in
    let region = room.region in
    subst (IsValueOf f e (with_slots (slot ∷ g.slots) g)) (sym (push_is sp high low core is (omega arith)))
    (value_pushed f e g core (core.sp + 65534) sp high low slot room long (omega arith) hh hl h)

pub value_push_pair : (p : StackPair) (f : Frame) (e : Env) (g : Symbolic) (core : Core) (sp : ℕ) → IsCore core → HasRoom f (length g.slots + 1) → core.sp ≡ sp + 2 → HasPointer f g core → IsValueOf f e g core → IsValueOf f e (with_slots (pushed p g ∷ g.slots) g) (push_pair p core)
unfolding push_pair pushed
value_push_pair stack.B f e g core sp k room is points h = value_push f e g core sp core.b core.c _ room k.memory is points (h.locations loc.B) (h.locations loc.C) h
value_push_pair stack.D f e g core sp k room is points h = value_push f e g core sp core.d core.e _ room k.memory is points (h.locations loc.D) (h.locations loc.E) h
value_push_pair stack.H f e g core sp k room is points h = value_push f e g core sp core.h core.l _ room k.memory is points (h.locations loc.H) (h.locations loc.L) h
value_push_pair stack.Psw f e g core sp k room is points h =
    let flags = flags_byte (k.locations loc.S) (k.locations loc.Z) (k.locations loc.Ac) (k.locations loc.P) (k.locations loc.Cy) (h.locations loc.S) (h.locations loc.Z) (h.locations loc.Ac) (h.locations loc.P) (h.locations loc.Cy) in
    value_push f e g core sp core.a (flag_byte core) _ room k.memory is points (h.locations loc.A) flags h

-- ---- POP
high_byte : (low high : ℕ) → low < 256 → high < 256 → (low + 256 * high) / 256 % 256 ≡ high
high_byte low high h k = omega arith

low_byte : (low high : ℕ) → low < 256 → (low + 256 * high) % 256 ≡ low
low_byte low high h = omega arith

-- the newest word is at the stack pointer
at_pointer : (f : Frame) (core : Core) (n : ℕ) → HasRoom f (n + 1) → core.sp + 2 * (n + 1) ≡ f.base → stack_address f (n + 1) % 65536 ≡ core.sp % 65536
at_pointer f core n room at = let floor = room.floor in let ceiling = room.ceiling in let region = room.region in omega arith

past_pointer : (f : Frame) (core : Core) (n : ℕ) → HasRoom f (n + 1) → core.sp + 2 * (n + 1) ≡ f.base → (stack_address f (n + 1) + 1) % 65536 ≡ (core.sp + 1) % 65536
past_pointer f core n room at = let floor = room.floor in let ceiling = room.ceiling in let region = room.region in omega arith

top_low : (f : Frame) (e : Env) (slot : Word) (slots : List Word) (core : Core) → HasRoom f (length slots + 1) → core.sp + 2 * (length slots + 1) ≡ f.base → AreWords f e (slot ∷ slots) core.cells → Gives e slot.low (cell core.sp core)
top_low f e slot slots core room at h = named (ap (λ a. slice_index core.cells a) (at_pointer f core (length slots) room at)) h.0.low

top_high : (f : Frame) (e : Env) (slot : Word) (slots : List Word) (core : Core) → HasRoom f (length slots + 1) → core.sp + 2 * (length slots + 1) ≡ f.base → AreWords f e (slot ∷ slots) core.cells → Gives e slot.high (cell (core.sp + 1) core)
top_high f e slot slots core room at h = named (ap (λ a. slice_index core.cells a) (past_pointer f core (length slots) room at)) h.0.high

pub byte_at : (a : ℕ) (core : Core) → IsCore core → cell a core < 256
byte_at a core k = k.bytes (a % 65536) 0 (omega (arith, k.memory))

whole_byte : (y : ℕ) → y / 1 % 2 ≡ y % 2
whole_byte y = omega arith

value_flag_bits : {f : Frame} {e : Env} {g : Symbolic} {core : Core} {t : Tree} {y : ℕ} → Gives e t y → IsValueOf f e g core → IsValueOf f e (with_flag_bits t g) (with_flag_byte y core)
unfolding with_flag_bits with_flag_byte
value_flag_bits {y = y} is h = to_flag loc.S tt (bit_of 7 is) (to_flag loc.Z tt (bit_of 6 is) (to_flag loc.Ac tt (bit_of 4 is) (to_flag loc.P tt (bit_of 2 is) (to_flag loc.Cy tt (named (whole_byte y) (bit_of 0 is)) h))))

value_top : (p : StackPair) (f : Frame) (e : Env) (g : Symbolic) (core : Core) (slot : Word) → IsCore core → Gives e slot.low (cell core.sp core) → Gives e slot.high (cell (core.sp + 1) core) → IsValueOf f e g core → IsValueOf f e (with_top p slot g) (top_to p core)
unfolding with_top top_to with_pair with_bytes
value_top stack.B f e g core slot k low high h = to_reg reg.B (named (sym (high_byte _ _ (byte_at core.sp core k) (byte_at (core.sp + 1) core k))) high) (to_reg reg.C (named (sym (low_byte _ _ (byte_at core.sp core k))) low) h)
value_top stack.D f e g core slot k low high h = to_reg reg.D (named (sym (high_byte _ _ (byte_at core.sp core k) (byte_at (core.sp + 1) core k))) high) (to_reg reg.E (named (sym (low_byte _ _ (byte_at core.sp core k))) low) h)
value_top stack.H f e g core slot k low high h = to_reg reg.H (named (sym (high_byte _ _ (byte_at core.sp core k) (byte_at (core.sp + 1) core k))) high) (to_reg reg.L (named (sym (low_byte _ _ (byte_at core.sp core k))) low) h)
value_top stack.Psw f e g core slot k low high h = to_reg reg.A high (value_flag_bits low h)

slots_of_top : (p : StackPair) (slot : Word) (g : Symbolic) → (with_top p slot g).slots ≡ g.slots
unfolding with_top with_term with_flag_bits with_bytes
slots_of_top stack.B slot g = refl
slots_of_top p slot g = refl

pub value_pop : (p : StackPair) (f : Frame) (e : Env) (g : Symbolic) (core : Core) (slot : Word) (slots : List Word) → IsCore core → HasRoom f (length slots + 1) → g.slots ≡ slot ∷ slots → HasPointer f g core → IsValueOf f e g core → IsValueOf f e (popped p (slot ∷ slots) g) (pop_pair p core)
unfolding pop_pair popped
value_pop p f e g core slot slots k room is points h =
    let words : AreWords f e (slot ∷ slots) core.cells = subst (λ slots. AreWords f e slots core.cells) is h.slots in
    let newest : core.sp + 2 * length (slot ∷ slots) ≡ f.base = sym (ap (λ (l : List Word). core.sp + 2 * length l) is) ∙ points in
    let there : core.sp + 2 * (length slots + 1) ≡ f.base = omega arith in
    let top = value_top p f e g core slot k (top_low f e slot slots core room there words) (top_high f e slot slots core room there words) h in
    let kept : AreWords f e (slot ∷ slots) (top_to p core).cells = subst (λ slots. AreWords f e slots (top_to p core).cells) (slots_of_top p slot g ∙ is) top.slots in
    value_moved f e _ _ slots (core.sp + 2) kept.1 top

-- ---- XTHL: the newest word is replaced, and its old bytes go to H and L
put_slots : {f : Frame} {e : Env} {g : Symbolic} {core core' : Core} (slots : List Word) → ((x : Loc) → at x core' ≡ at x core) → ((z : ℤ) → shown f core'.cells z ≡ shown f core.cells z) → AreWords f e slots core'.cells → IsValueOf f e g core → IsValueOf f e (with_slots slots g) core'
unfolding with_slots
put_slots {f = f} {e = e} {g = g} {core = core} {core' = core'} slots places cells now h = record {
  locations = each_loc (λ x. Gives e (term_at x (with_slots slots g)) (at x core')) (named (sym (places loc.A)) (h.locations loc.A)) (named (sym (places loc.B)) (h.locations loc.B)) (named (sym (places loc.C)) (h.locations loc.C)) (named (sym (places loc.D)) (h.locations loc.D)) (named (sym (places loc.E)) (h.locations loc.E)) (named (sym (places loc.H)) (h.locations loc.H)) (named (sym (places loc.L)) (h.locations loc.L)) (named (sym (places loc.S)) (h.locations loc.S)) (named (sym (places loc.Z)) (h.locations loc.Z)) (named (sym (places loc.Ac)) (h.locations loc.Ac)) (named (sym (places loc.P)) (h.locations loc.P)) (named (sym (places loc.Cy)) (h.locations loc.Cy));
  memory = λ z. h.memory z ∙ sym (cells z);
  slots = now;
}

replaced : {f : Frame} {e : Env} {g : Symbolic} {core : Core} (slot : Word) (slots : List Word) {high low : Tree} {m n : ℕ} → HasRoom f (length slots + 1) → length core.cells ≡ 65536 → g.slots ≡ slot ∷ slots → core.sp + 2 * (length slots + 1) ≡ f.base → Gives e high m → Gives e low n → IsValueOf f e g core → IsValueOf f e (with_slots (record { high = high; low = low } ∷ slots) g) (with_cell (core.sp + 1) m (with_cell core.sp n core))
replaced {f = f} {e = e} {g = g} {core = core} slot slots {m = m} {n = n} room long is there high low h =
    let floor = room.floor in
    let ceiling = room.ceiling in
    let region = room.region in
    let less : HasRoom f (length slots) = record { floor = omega arith; ceiling = omega arith; region = region } in
    let words : AreWords f e (slot ∷ slots) core.cells = subst (λ slots. AreWords f e slots core.cells) is h.slots in
    let one = with_cell_cells core.sp n core (omega arith) in
    let two = with_cell_cells (core.sp + 1) m (with_cell core.sp n core) (omega arith) in
    let before : AreWords f e slots (with_cell core.sp n core).cells = subst (λ cells. AreWords f e slots cells) (sym one) (words_stay f e slots core.cells (length slots) core.sp n less (omega arith) (omega arith) words.1) in
    let after : AreWords f e slots (with_cell (core.sp + 1) m (with_cell core.sp n core)).cells = subst (λ cells. AreWords f e slots cells) (sym two) (words_stay f e slots _ (length slots) (core.sp + 1) m less (omega arith) (omega arith) before) in
    let unseen_one = λ (z : ℤ). ap (λ cells. shown f cells z) one ∙ unseen f core.cells core.sp n z (in_stack_true core.sp f (omega arith) (omega arith)) in
    let unseen_two = λ (z : ℤ). ap (λ cells. shown f cells z) two ∙ unseen f (with_cell core.sp n core).cells (core.sp + 1) m z (in_stack_true (core.sp + 1) f (omega arith) (omega arith)) in
    put_slots {core = core} _ (λ x. cell_loc x (core.sp + 1) m _ ∙ cell_loc x core.sp n core) (λ z. unseen_two z ∙ unseen_one z) (
      record {
        low = named (sym (cell_other (with_cell core.sp n core) (core.sp + 1) (stack_address f (length slots + 1)) m (omega arith) (omega arith) ∙ cell_same core core.sp (stack_address f (length slots + 1)) n (omega arith) (omega arith) long)) low;
        high = named (sym (cell_same (with_cell core.sp n core) (core.sp + 1) (stack_address f (length slots + 1) + 1) m (omega arith) (omega arith) (long_cell core core.sp n (omega arith) long))) high;
      },
      after,
    ) h

pub value_exchange_top : {f : Frame} {e : Env} {g : Symbolic} {core : Core} (slot : Word) (slots : List Word) → HasRoom f (length slots + 1) → IsCore core → g.slots ≡ slot ∷ slots → HasPointer f g core → IsValueOf f e g core → IsValueOf f e (top_exchanged (slot ∷ slots) g) (exchange_top core)
unfolding exchange_top top_exchanged pushed with_bytes
value_exchange_top {f = f} {e = e} {g = g} {core = core} slot slots room k is points h =
    let words : AreWords f e (slot ∷ slots) core.cells = subst (λ slots. AreWords f e slots core.cells) is h.slots in
    let newest : core.sp + 2 * length (slot ∷ slots) ≡ f.base = sym (ap (λ (l : List Word). core.sp + 2 * length l) is) ∙ points in
    let there : core.sp + 2 * (length slots + 1) ≡ f.base = omega arith in
    to_reg reg.H (top_high f e slot slots core room there words) (to_reg reg.L (top_low f e slot slots core room there words)
    (replaced slot slots room k.memory is there (h.locations loc.H) (h.locations loc.L) h))
