-- RET as a jump to a pushed address.
use Rattle.std.proofs.Common.{◌≡◌, ◌≢◌, ℕ, zero, suc, ◌+◌, ◌*◌, ◌%◌, ◌<◌, ◌≤◌, false, List, [], ◌∷◌, length, refl, ap, subst, ◌∙◌, arith, Some, inr, lit<, lit≤, ◌/◌}
use Rattle.std.specs.Prelude.{Contains, slice_set}
use Rattle.std.proofs.lemmas.List.Elements.{All-nil}
use Rattle.std.specs.Ordering.{nat_cmp}
use Rattle.std.specs.FinMap as maps
use Rattle.sp_base.specs.declared.location.Loc.{Loc}
use Rattle.sp_base.specs.declared.location.Loc.TheVariants as loc
use Rattle.sp_isa.specs.declared.instr.StackPair.TheVariants as stack
use Rattle.sp_isa.specs.declared.instr.Instr.TheVariants.{Ret, Push, Lxi}
use Rattle.sp_isa.specs.Core.{at, cell, word, with_cell, with_reg, with_sp, with_pc, advance}
use Rattle.sp_isa.specs.Operands.{with_pair}
use Rattle.sp_isa.specs.Stack.{push, push_pair, ret}
use Rattle.sp_isa.specs.Effect.{effect}
use Rattle.sp_model.specs.State.{State, next_instr, step, run}
use Rattle.sp_model.specs.Unit.{Stmt, Routine, Unit}
use Rattle.sp_model.specs.Good.{Keeps, Loaded, IsEntry, IsGoodAt, IsReturnStep, AllRunsAreGood}
use Rattle.sp_examples.specs.Units.{alone, bytes_of}
use Rattle.sp_examples.specs.States.{ready}
use Rattle.sp_examples.proofs.RunLemmas.{step_quiet, IsGoodFrom, goes}
use Rattle.sp_examples.proofs.KeepsLemmas.{keeps_itself, keeps_still, keeps_written, loaded_written, cell_apart}
use Rattle.sp_examples.proofs.EntryLemmas.{state_of_bytes, fetch, low_image, placed, memory_long, ready_loaded}
use Rattle.sp_examples.proofs.GoodLemmas.{HasNoAsserts, Says, good_step, good_away, not_return, step_ret, back, unasserted}
use Rattle.sp_examples.proofs.AloneLemmas.{each, one_of, all_alone, finish, word_kept, loaded_still}
use Rattle.sp_base.specs.declared.pair.Pair.TheVariants as pair
use Rattle.sp_examples.specs.Units.{far}
use Rattle.sp_examples.proofs.PushLemmas.{pushed_cells, word_on}

abbrev cells : ℕ → List (ℕ × ℕ)
cells w = bytes_of (far w).code

-- after the LXI
abbrev aimed : ℕ → State → State
aimed w s = record s { core = record s.core { b = w / 256 % 256; c = w % 256; pc = 0x103; halted = false } }

-- after the PUSH
abbrev put : ℕ → State → State
put w s = record s { core = record s.core { b = w / 256 % 256; c = w % 256; sp = (s.core.sp + 65534) % 65536; pc = 0x104; halted = false; cells = pushed_cells (aimed w s).core } }

-- after the first RET
abbrev landed : ℕ → State → State
landed w s = record s { core = record s.core { b = w / 256 % 256; c = w % 256; pc = w; halted = false; cells = pushed_cells (aimed w s).core } }

low : (w a b : ℕ) → maps.get (maps.from_sorted {R = nat_cmp} (cells w)) a ≡ Some b → a < 0x200
low w = low_image 0x200 (cells w) refl refl

fetches_lxi : (w : ℕ) (s : State) → Loaded (maps.from_sorted (cells w)) (placed s 0x100) → next_instr (placed s 0x100).core ≡ Some (Lxi pair.B w, 3)
fetches_lxi w s loaded = fetch (cells w) (placed s 0x100) (Lxi pair.B w) refl loaded refl refl

aims : (w : ℕ) (s : State) → Loaded (maps.from_sorted (cells w)) (placed s 0x100) → step (placed s 0x100) ≡ aimed w s
unfolding effect advance with_pc with_pair with_reg
aims w s loaded = step_quiet (placed s 0x100) (Lxi pair.B w) 3 refl (fetches_lxi w s loaded) refl refl

fetches_push : (w : ℕ) (s : State) → Loaded (maps.from_sorted (cells w)) (aimed w s) → next_instr (aimed w s).core ≡ Some (Push stack.B, 1)
fetches_push w s loaded = fetch (cells w) (aimed w s) (Push stack.B) refl loaded refl refl

puts : (w : ℕ) (s : State) → Loaded (maps.from_sorted (cells w)) (aimed w s) → step (aimed w s) ≡ put w s
unfolding effect advance with_pc push_pair push with_sp with_cell
puts w s loaded = step_quiet (aimed w s) (Push stack.B) 1 refl (fetches_push w s loaded) refl refl

fetches_ret : (w : ℕ) (s : State) → Loaded (maps.from_sorted (cells w)) (put w s) → next_instr (put w s).core ≡ Some (Ret, 1)
fetches_ret w s loaded = fetch (cells w) (put w s) Ret refl loaded refl refl

lands : (w : ℕ) (s : State) → w < 65536 → length s.core.cells ≡ 65536 → 2 ≤ s.core.sp → s.core.sp < 65536 → Loaded (maps.from_sorted (cells w)) (put w s) → step (put w s) ≡ landed w s
unfolding ret with_sp with_pc
lands w s small long room top loaded =
    let is : word ((s.core.sp + 65534) % 65536) (put w s).core ≡ w % 256 + 256 * (w / 256 % 256) = word_on (aimed w s) long room top in
    let whole : (w % 256 + 256 * (w / 256 % 256)) % 65536 ≡ w = omega arith in
    let sp_is : ((s.core.sp + 65534) % 65536 + 2) % 65536 ≡ s.core.sp = omega arith in
    step_ret (put w s) refl (fetches_ret w s loaded)
    ∙ ap (λ x. record s { core = record s.core { b = w / 256 % 256; c = w % 256; sp = ((s.core.sp + 65534) % 65536 + 2) % 65536; pc = x % 65536; halted = false; cells = pushed_cells (aimed w s).core } }) is
    ∙ ap (λ x. record s { core = record s.core { b = w / 256 % 256; c = w % 256; sp = ((s.core.sp + 65534) % 65536 + 2) % 65536; pc = x; halted = false; cells = pushed_cells (aimed w s).core } }) whole
    ∙ ap (λ x. record s { core = record s.core { b = w / 256 % 256; c = w % 256; sp = x; pc = w; halted = false; cells = pushed_cells (aimed w s).core } }) sp_is

-- the parts of a run from a state with room
record RunParts (w : ℕ) (s : State) : Type 0 where
  first : Loaded (maps.from_sorted (cells w)) (aimed w s)
  second : Loaded (maps.from_sorted (cells w)) (put w s)
  third : Loaded (maps.from_sorted (cells w)) (landed w s)
  kept : Keeps (alone (far w)) (far w) (placed s 0x100) (put w s)

parts_of : (w : ℕ) (s : State) → 0x2302 ≤ s.core.sp → s.core.sp < 0x2400 → Loaded (maps.from_sorted (cells w)) (placed s 0x100) → RunParts w s
parts_of w s below above loaded =
    let u : Unit = alone (far w) in
    let r : Routine = far w in
    let t : State = placed s 0x100 in
    let half : State = record s { core = record s.core { pc = 0x100; halted = false; cells = slice_set s.core.cells ((s.core.sp + 65535) % 65536) (w / 256 % 256) } } in
    let loaded_aimed = loaded_still u.image t (aimed w s) refl loaded in
    let loaded_half = loaded_written u.image (aimed w s) half ((s.core.sp + 65535) % 65536) (w / 256 % 256) (low w) (omega arith) refl loaded_aimed in
    let loaded_put = loaded_written u.image half (put w s) ((s.core.sp + 65534) % 65536) (w % 256) (low w) (omega arith) refl loaded_half in
    record {
      first = loaded_aimed;
      second = loaded_put;
      third = loaded_still u.image (put w s) (landed w s) refl loaded_put;
      kept = keeps_written u r t half (put w s) ((s.core.sp + 65534) % 65536) (w % 256)
          (keeps_written u r t t half ((s.core.sp + 65535) % 65536) (w / 256 % 256) (keeps_itself u r t) refl refl (inr (omega arith, omega arith)))
          refl refl (inr (omega arith, omega arith));
    }

not_base : (sp : ℕ) → 0x2302 ≤ sp → sp < 0x2400 → (sp + 65534) % 65536 ≢ sp
not_base sp below above h = omega arith

stays : (w : ℕ) (s : State) (a : ℕ) → 2 ≤ s.core.sp → s.core.sp ≤ a → a < 65536 → cell a (landed w s).core ≡ cell a s.core
stays w s a room under over =
    cell_apart (slice_set s.core.cells ((s.core.sp + 65535) % 65536) (w / 256 % 256)) (a % 65536) ((s.core.sp + 65534) % 65536) (w % 256) (λ h. omega arith)
    ∙ cell_apart s.core.cells (a % 65536) ((s.core.sp + 65535) % 65536) (w / 256 % 256) (λ h. omega arith)

unlisted : (w : ℕ) (s : State) (x : Loc) → ¬ Contains (loc.B ∷ loc.C ∷ []) x → at x (landed w s).core ≡ at x (placed s 0x100).core
unlisted w s loc.B out = absurd (out (0, lit< tt, refl))
unlisted w s loc.C out = absurd (out (1, lit< tt, refl))
unlisted w s x out = refl

-- what is said of the states before the first RET has gone on, and of it
from_entry : (w : ℕ) (s : State) → w < 65536 → IsEntry (alone (far w)) (far w) (placed s 0x100) → IsGoodFrom (alone (far w)) (far w) (placed s 0x100) (landed w s) → IsGoodFrom (alone (far w)) (far w) (placed s 0x100) (placed s 0x100)
from_entry w s small entry rest =
    let u : Unit = alone (far w) in
    let r : Routine = far w in
    let t : State = placed s 0x100 in
    let room = entry.room refl in
    let below : 0x2302 ≤ s.core.sp = room.below in
    let above : s.core.sp + 1 ≤ 0x23FF = room.above in
    let top : s.core.sp < 65536 = entry.state.core.sp in
    let parts = parts_of w s below (omega arith) entry.loaded in
    let silent : HasNoAsserts r.code = (refl, (refl, (refl, (refl, tt)))) in
    goes u r t t (aimed w s)
    (good_step u r t t (Lxi pair.B w) 3 (fetches_lxi w s entry.loaded) (keeps_itself u r t) (r, (0, lit< tt, refl), (_, (0, lit< tt, refl), refl)) (unasserted u r t t silent) (λ port h. cc) refl)
    (aims w s entry.loaded)
    (goes u r t (aimed w s) (put w s)
    (good_step u r t (aimed w s) (Push stack.B) 1 (fetches_push w s parts.first) (keeps_still u r t t (aimed w s) (keeps_itself u r t) refl refl) (r, (0, lit< tt, refl), (_, (1, lit< tt, refl), refl)) (unasserted u r t (aimed w s) silent) (λ port h. cc) refl)
    (puts w s parts.first)
    (goes u r t (put w s) (landed w s)
    (good_away u r t (put w s) Ret 1 (fetches_ret w s parts.second) parts.kept (r, (0, lit< tt, refl), (_, (2, lit< tt, refl), refl)) (unasserted u r t (put w s) silent) refl (not_base s.core.sp below (omega arith)))
    (lands w s small entry.state.core.memory (omega arith) top parts.second)
    rest))

pub far_good : AllRunsAreGood (alone (far 0x105))
far_good = all_alone (far 0x105) (λ s entry.
    let r : Routine = far 0x105 in
    let u : Unit = alone r in
    let t : State = placed s 0x100 in
    let v : State = landed 0x105 s in
    let room = entry.room refl in
    let below : 0x2302 ≤ s.core.sp = room.below in
    let above : s.core.sp + 1 ≤ 0x23FF = room.above in
    let parts = parts_of 0x105 s below (omega arith) entry.loaded in
    from_entry 0x105 s (lit< tt) entry
    (finish u r t v refl (fetch (cells 0x105) v Ret refl parts.third refl refl) entry.state
    (keeps_still u r t (put 0x105 s) v parts.kept refl refl)
    (r, (0, lit< tt, refl), (_, (3, lit< tt, refl), refl)) (unasserted u r t v (refl, (refl, (refl, (refl, tt)))))
    refl (omega arith)
    (word_kept t v s.core.sp (stays 0x105 s s.core.sp (omega arith) (omega arith) (omega arith)) (stays 0x105 s (s.core.sp + 1) (omega arith) (omega arith) (omega arith)))
    (All-nil (Says u r t (back v))) (λ x out. unlisted 0x105 s x out)))

pub far_entry : (w : ℕ) → w < 65536 → IsEntry (alone (far w)) (far w) (ready (cells w) 0x100 0x2380)
far_entry w small = record {
  state = state_of_bytes (cells w) 0x100 0x2380 (lit< tt, (omega arith, (omega arith, (lit< tt, (lit< tt, (lit< tt, tt)))))) (lit< tt) (lit< tt);
  loaded = ready_loaded (cells w) 0x100 0x2380 refl refl;
  begins = refl;
  running = refl;
  pre = All-nil (Says (alone (far w)) (far w) (ready (cells w) 0x100 0x2380) (ready (cells w) 0x100 0x2380));
  room = λ h. record { below = lit≤ tt; above = lit≤ tt };
}

abbrev bad_entry : IsEntry (alone (far 0x106)) (far 0x106) (ready (cells 0x106) 0x100 0x2380)
bad_entry = far_entry 0x106 (lit< tt)

-- at 106H stands no instruction of the program
pub far_bad : ¬ AllRunsAreGood (alone (far 0x106))
far_bad good =
    let r : Routine = far 0x106 in
    let u : Unit = alone r in
    let s : State = ready (cells 0x106) 0x100 0x2380 in
    let parts = parts_of 0x106 s (lit≤ tt) (lit< tt) bad_entry.loaded in
    let one : run s 1 ≡ aimed 0x106 s = aims 0x106 s bad_entry.loaded in
    let two : run s 2 ≡ put 0x106 s = ap step one ∙ puts 0x106 s parts.first in
    let three : run s 3 ≡ landed 0x106 s = ap step two ∙ lands 0x106 s (lit< tt) (memory_long (cells 0x106)) (lit≤ tt) (lit< tt) parts.second in
    let after = subst (IsGoodAt u r s) three (good r (0, lit< tt, refl) s bad_entry 3 3 (lit≤ tt) (λ k less. stays_in k less one two (fetches_push 0x106 s parts.first))) in
    one_of (λ (q : Routine). (i : Stmt) → Contains q.code i → i.address ≡ 0x106 → ⊥) r (λ i there. not_there i there) after.in_code.0 after.in_code.1 after.in_code.2.0 after.in_code.2.1 after.in_code.2.2
  where
    not_there : (i : Stmt) → Contains (far 0x106).code i → i.address ≡ 0x106 → ⊥
    not_there = each (λ i. i.address ≡ 0x106 → ⊥) (far 0x106).code ((λ h. omega arith), ((λ h. omega arith), ((λ h. omega arith), ((λ h. omega arith), tt))))

    stays_in : (k : ℕ) → k < 3 → run (ready (cells 0x106) 0x100 0x2380) 1 ≡ aimed 0x106 (ready (cells 0x106) 0x100 0x2380) → run (ready (cells 0x106) 0x100 0x2380) 2 ≡ put 0x106 (ready (cells 0x106) 0x100 0x2380) → next_instr (aimed 0x106 (ready (cells 0x106) 0x100 0x2380)).core ≡ Some (Push stack.B, 1) → ¬ IsReturnStep (alone (far 0x106)) (far 0x106) (ready (cells 0x106) 0x100 0x2380) (run (ready (cells 0x106) 0x100 0x2380) k)
    stays_in zero less one two is = not_return (alone (far 0x106)) (far 0x106) (ready (cells 0x106) 0x100 0x2380) (ready (cells 0x106) 0x100 0x2380) (Lxi pair.B 0x106) 3 (fetches_lxi 0x106 (ready (cells 0x106) 0x100 0x2380) bad_entry.loaded) refl
    stays_in (suc zero) less one two is = λ h. not_return (alone (far 0x106)) (far 0x106) (ready (cells 0x106) 0x100 0x2380) (aimed 0x106 (ready (cells 0x106) 0x100 0x2380)) (Push stack.B) 1 is refl (subst (IsReturnStep (alone (far 0x106)) (far 0x106) (ready (cells 0x106) 0x100 0x2380)) one h)
    stays_in (suc (suc zero)) less one two is = λ h. not_top (subst (IsReturnStep (alone (far 0x106)) (far 0x106) (ready (cells 0x106) 0x100 0x2380)) two h).at_base
      where
        not_top : ◌≡◌ {A = ℕ} 0x237E 0x2380 → ⊥
        not_top h = omega arith
    stays_in (suc (suc (suc k))) less one two is = absurd (omega arith)
