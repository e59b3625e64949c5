-- PUSH B, POP B and RET.
use Rattle.std.proofs.Common.{◌≡◌, ◌≢◌, ℕ, zero, suc, ◌+◌, ◌*◌, ◌%◌, ◌<◌, ◌≤◌, false, List, [], ◌∷◌, length, refl, sym, ap, subst, ◌∙◌, arith, Some, inl, inr, lit<, lit≤, pos, ◌-◌, get_or-set_same, length-set, ◌/◌}
use Rattle.std.specs.Prelude.{All, slice_index, slice_set, unwrap_or, ◌↔◌}
use Rattle.std.proofs.lemmas.List.Elements.{All-nil, All-cons}
use Rattle.std.proofs.lemmas.Bool.{cases_lt}
use Rattle.std.specs.Ordering.{nat_cmp}
use Rattle.std.specs.FinMap as maps
use Rattle.sp_base.specs.declared.location.Loc.TheVariants as loc
use Rattle.sp_isa.specs.declared.instr.StackPair.TheVariants as stack
use Rattle.sp_isa.specs.declared.instr.Instr.TheVariants.{Ret, Push, Pop}
use Rattle.sp_isa.specs.Core.{Core, cell, word, with_cell, with_reg, with_sp, with_pc, advance}
use Rattle.sp_isa.specs.Operands.{with_pair}
use Rattle.sp_isa.specs.Stack.{push, push_pair, pop_pair, top_to}
use Rattle.sp_isa.specs.Effect.{effect}
use Rattle.sp_model.specs.Note.{Note}
use Rattle.sp_model.specs.State.{State, IsState, next_instr, step}
use Rattle.sp_model.specs.Unit.{Stmt, Routine, Unit}
use Rattle.sp_model.specs.Good.{Keeps, Loaded, IsEntry, IsGoodAt, AllRunsAreGood}
use Rattle.sp_examples.specs.Units.{alone, bytes_of}
use Rattle.sp_examples.specs.States.{ready, memory_of}
use Rattle.sp_examples.proofs.RunLemmas.{step_quiet, IsGoodFrom, goes}
use Rattle.sp_examples.proofs.KeepsLemmas.{loaded_written, keeps_itself, keeps_still, keeps_written, cell_apart}
use Rattle.sp_examples.proofs.EntryLemmas.{none_past, fetch, low_image, placed, memory_at, memory_long, ready_state, ready_loaded}
use Rattle.sp_examples.proofs.GoodLemmas.{Says, AssertsHold, good_step, not_return, back}
use Rattle.sp_examples.proofs.AloneLemmas.{all_alone, after_one, finish, word_kept, at_moved, loaded_still}
use Rattle.sp_examples.specs.Units.{push as pushing, pushed_word}

abbrev pub cells : List (ℕ × ℕ)
cells = bytes_of (pushing 0 []).code

-- memory after the PUSH
abbrev pub pushed_cells : Core → List ℕ
pushed_cells core = slice_set (slice_set core.cells ((core.sp + 65535) % 65536) core.b) ((core.sp + 65534) % 65536) core.c

-- the state after the PUSH
abbrev pub pushed : State → State
pushed s = record s { core = record s.core { sp = (s.core.sp + 65534) % 65536; pc = 0x101; halted = false; cells = pushed_cells s.core } }

-- the state after the POP
abbrev pub popped : State → State
popped s = record s { core = record s.core { pc = 0x102; halted = false; cells = pushed_cells s.core } }

pub fetches_push : (s : State) → Loaded (maps.from_sorted cells) (placed s 0x100) → next_instr (placed s 0x100).core ≡ Some (Push stack.B, 1)
fetches_push s loaded = fetch cells (placed s 0x100) (Push stack.B) refl loaded refl refl

pub pushes : (s : State) → Loaded (maps.from_sorted cells) (placed s 0x100) → step (placed s 0x100) ≡ pushed s
unfolding effect advance with_pc push_pair push with_sp with_cell
pushes s loaded = step_quiet (placed s 0x100) (Push stack.B) 1 refl (fetches_push s loaded) refl refl

pub fetches_pop : (s : State) → Loaded (maps.from_sorted cells) (pushed s) → next_instr (pushed s).core ≡ Some (Pop stack.B, 1)
fetches_pop s loaded = fetch cells (pushed s) (Pop stack.B) refl loaded refl refl

-- the two bytes on the stack
pub low_byte : (s : State) → length s.core.cells ≡ 65536 → 2 ≤ s.core.sp → s.core.sp < 65536 → cell ((s.core.sp + 65534) % 65536) (pushed s).core ≡ s.core.c
low_byte s long room top =
    let there : (s.core.sp + 65534) % 65536 % 65536 ≡ (s.core.sp + 65534) % 65536 = omega arith in
    ap (slice_index (pushed_cells s.core)) there
    ∙ get_or-set_same (slice_set s.core.cells ((s.core.sp + 65535) % 65536) s.core.b) ((s.core.sp + 65534) % 65536) s.core.c 0 (omega (arith, length-set s.core.cells ((s.core.sp + 65535) % 65536) s.core.b, long))

pub high_byte : (s : State) → length s.core.cells ≡ 65536 → 2 ≤ s.core.sp → s.core.sp < 65536 → cell ((s.core.sp + 65534) % 65536 + 1) (pushed s).core ≡ s.core.b
high_byte s long room top =
    let there : ((s.core.sp + 65534) % 65536 + 1) % 65536 ≡ (s.core.sp + 65535) % 65536 = omega arith in
    ap (slice_index (pushed_cells s.core)) there
    ∙ cell_apart (slice_set s.core.cells ((s.core.sp + 65535) % 65536) s.core.b) ((s.core.sp + 65535) % 65536) ((s.core.sp + 65534) % 65536) s.core.c (λ h. omega arith)
    ∙ get_or-set_same s.core.cells ((s.core.sp + 65535) % 65536) s.core.b 0 (omega (arith, long))

pub word_on : (s : State) → length s.core.cells ≡ 65536 → 2 ≤ s.core.sp → s.core.sp < 65536 → word ((s.core.sp + 65534) % 65536) (pushed s).core ≡ s.core.c + 256 * s.core.b
word_on s long room top =
    ap (λ x. x + 256 * cell ((s.core.sp + 65534) % 65536 + 1) (pushed s).core) (low_byte s long room top)
    ∙ ap (λ x. s.core.c + 256 * x) (high_byte s long room top)

pub pops : (s : State) → IsState (placed s 0x100) → 2 ≤ s.core.sp → Loaded (maps.from_sorted cells) (pushed s) → step (pushed s) ≡ popped s
unfolding effect advance with_pc pop_pair top_to with_pair with_reg with_sp
pops s state room loaded =
    let w : ℕ = word ((s.core.sp + 65534) % 65536) (pushed s).core in
    let is : word ((s.core.sp + 65534) % 65536) (pushed s).core ≡ s.core.c + 256 * s.core.b = word_on s state.core.memory room state.core.sp in
    let small_b : s.core.b < 256 = state.core.locations loc.B in
    let small_c : s.core.c < 256 = state.core.locations loc.C in
    let b_is : (s.core.c + 256 * s.core.b) / 256 % 256 ≡ s.core.b = omega arith in
    let c_is : (s.core.c + 256 * s.core.b) % 256 ≡ s.core.c = omega arith in
    let top : s.core.sp < 65536 = state.core.sp in
    let sp_is : ((s.core.sp + 65534) % 65536 + 2) % 65536 ≡ s.core.sp = omega arith in
    step_quiet (pushed s) (Pop stack.B) 1 refl (fetches_pop s loaded) refl refl
    ∙ ap (λ x. record s { core = record s.core { b = x / 256 % 256; c = x % 256; sp = ((s.core.sp + 65534) % 65536 + 2) % 65536; pc = 0x102; halted = false; cells = pushed_cells s.core } }) is
    ∙ ap (λ x. record s { core = record s.core { b = x; c = (s.core.c + 256 * s.core.b) % 256; sp = ((s.core.sp + 65534) % 65536 + 2) % 65536; pc = 0x102; halted = false; cells = pushed_cells s.core } }) b_is
    ∙ ap (λ x. record s { core = record s.core { c = x; sp = ((s.core.sp + 65534) % 65536 + 2) % 65536; pc = 0x102; halted = false; cells = pushed_cells s.core } }) c_is
    ∙ ap (λ x. record s { core = record s.core { sp = x; pc = 0x102; halted = false; cells = pushed_cells s.core } }) sp_is

-- ---- assertions at the POP
asserted : (depth : ℕ) (asserts : List Note) (s t : State) → (t.core.pc ≡ 0x101 → All (Says (alone (pushing depth asserts)) (pushing depth asserts) s t) asserts) → AssertsHold (alone (pushing depth asserts)) (pushing depth asserts) s t
asserted depth asserts s t h i (zero, less, is) there = subst (λ (i : Stmt). All (Says (alone (pushing depth asserts)) (pushing depth asserts) s t) i.asserts) is (All-nil _)
asserted depth asserts s t h i (suc zero, less, is) there = subst (λ (i : Stmt). All (Says (alone (pushing depth asserts)) (pushing depth asserts) s t) i.asserts) is (h (sym there ∙ sym (ap (λ (i : Stmt). i.address) is)))
asserted depth asserts s t h i (suc (suc zero), less, is) there = subst (λ (i : Stmt). All (Says (alone (pushing depth asserts)) (pushing depth asserts) s t) i.asserts) is (All-nil _)
asserted depth asserts s t h i (suc (suc (suc k)), less, is) there = absurd (omega arith)

not_101 : (pc : ℕ) → pc ≢ 0x101 → (A : Type 0) → pc ≡ 0x101 → A
not_101 pc other A is = absurd (other is)

kept_pushed : (depth : ℕ) (asserts : List Note) (s : State) → 2 ≤ depth → 2 ≤ s.core.sp → s.core.sp < 65536 → Keeps (alone (pushing depth asserts)) (pushing depth asserts) (placed s 0x100) (pushed s)
kept_pushed depth asserts s deep room top =
    let u : Unit = alone (pushing depth asserts) in
    let r : Routine = pushing depth asserts in
    let t : State = placed s 0x100 in
    let half : State = record s { core = record s.core { pc = 0x100; halted = false; cells = slice_set s.core.cells ((s.core.sp + 65535) % 65536) s.core.b } } in
    keeps_written u r t half (pushed s) ((s.core.sp + 65534) % 65536) s.core.c
    (keeps_written u r t t half ((s.core.sp + 65535) % 65536) s.core.b (keeps_itself u r t) refl refl (inr (omega arith, omega arith)))
    refl refl (inr (omega arith, omega arith))

pub stays : (s : State) (a : ℕ) → 2 ≤ s.core.sp → s.core.sp ≤ a → a < 65536 → cell a (popped s).core ≡ cell a s.core
stays s a room under over =
    cell_apart (slice_set s.core.cells ((s.core.sp + 65535) % 65536) s.core.b) (a % 65536) ((s.core.sp + 65534) % 65536) s.core.c (λ h. omega arith)
    ∙ cell_apart s.core.cells (a % 65536) ((s.core.sp + 65535) % 65536) s.core.b (λ h. omega arith)

good_run : (depth : ℕ) (asserts : List Note) (s : State) → 2 ≤ depth → All (Says (alone (pushing depth asserts)) (pushing depth asserts) (placed s 0x100) (pushed s)) asserts → IsEntry (alone (pushing depth asserts)) (pushing depth asserts) (placed s 0x100) → IsGoodFrom (alone (pushing depth asserts)) (pushing depth asserts) (placed s 0x100) (placed s 0x100)
good_run depth asserts s deep holds entry =
    let u : Unit = alone (pushing depth asserts) in
    let r : Routine = pushing depth asserts in
    let t : State = placed s 0x100 in
    let room = entry.room refl in
    let below : 0x2302 ≤ s.core.sp = omega (arith, room.below) in
    let above : s.core.sp + 1 ≤ 0x23FF = room.above in
    let kept : Keeps u r t (pushed s) = kept_pushed depth asserts s deep (omega arith) (omega arith) in
    let loaded : Loaded u.image (pushed s) = loaded_written u.image half (pushed s) ((s.core.sp + 65534) % 65536) s.core.c low (omega arith) refl
    (loaded_written u.image t half ((s.core.sp + 65535) % 65536) s.core.b low (omega arith) refl entry.loaded) in
    let kept_popped : Keeps u r t (popped s) = keeps_still u r t (pushed s) (popped s) kept refl refl in
    let loaded_popped : Loaded u.image (popped s) = loaded_still u.image (pushed s) (popped s) refl loaded in
    goes u r t t (pushed s)
    (good_step u r t t (Push stack.B) 1 (fetches_push s entry.loaded) (keeps_itself u r t)
    (r, (0, lit< tt, refl), (_, (0, lit< tt, refl), refl)) (asserted depth asserts t t (λ h. absurd (apart_first h))) (λ port h. cc) refl)
    (pushes s entry.loaded)
    (goes u r t (pushed s) (popped s)
    (good_step u r t (pushed s) (Pop stack.B) 1 (fetches_pop s loaded) kept
    (r, (0, lit< tt, refl), (_, (1, lit< tt, refl), refl)) (asserted depth asserts t (pushed s) (λ h. holds)) (λ port h. cc) refl)
    (pops s entry.state (omega arith) loaded)
    (finish u r t (popped s) refl (fetch cells (popped s) Ret refl loaded_popped refl refl) entry.state kept_popped
    (r, (0, lit< tt, refl), (_, (2, lit< tt, refl), refl)) (asserted depth asserts t (popped s) (λ h. absurd (apart_last h)))
    refl (omega arith)
    (word_kept t (popped s) s.core.sp (stays s s.core.sp (omega arith) (omega arith) (omega arith)) (stays s (s.core.sp + 1) (omega arith) (omega arith) (omega arith)))
    (All-nil (Says u r t (back (popped s))))
    (λ x out. at_moved x s.core s.core.sp 0x102 false (pushed_cells s.core) ∙ sym (at_moved x s.core s.core.sp 0x100 false s.core.cells))))
  where
    half : State
    half = record s { core = record s.core { pc = 0x100; halted = false; cells = slice_set s.core.cells ((s.core.sp + 65535) % 65536) s.core.b } }

    low : (a b : ℕ) → maps.get (maps.from_sorted {R = nat_cmp} cells) a ≡ Some b → a < 0x200
    low = low_image 0x200 cells refl refl

    apart_first : ◌≡◌ {A = ℕ} 0x100 0x101 → ⊥
    apart_first h = omega arith

    apart_last : ◌≡◌ {A = ℕ} 0x102 0x101 → ⊥
    apart_last h = omega arith

pub entry : (depth : ℕ) (asserts : List Note) (sp : ℕ) → 0x2300 + depth ≤ sp → sp + 1 ≤ 0x23FF → IsEntry (alone (pushing depth asserts)) (pushing depth asserts) (ready cells 0x100 sp)
entry depth asserts sp below above = record {
  state = ready_state cells 0x100 sp refl (lit< tt) (omega arith);
  loaded = ready_loaded cells 0x100 sp refl refl;
  begins = refl;
  running = refl;
  pre = All-nil (Says (alone (pushing depth asserts)) (pushing depth asserts) (ready cells 0x100 sp) (ready cells 0x100 sp));
  room = λ h. record { below = below; above = above };
}

-- the state at the POP of a good program
at_pop : (depth : ℕ) (asserts : List Note) → depth ≤ 0x80 → AllRunsAreGood (alone (pushing depth asserts)) → IsGoodAt (alone (pushing depth asserts)) (pushing depth asserts) (ready cells 0x100 0x2380) (pushed (ready cells 0x100 0x2380))
at_pop depth asserts short good =
    let s : State = ready cells 0x100 0x2380 in
    let r : Routine = pushing depth asserts in
    let enters : IsEntry (alone r) r s = entry depth asserts 0x2380 (omega arith) (omega arith) in
    after_one r s (pushed s) good enters (not_return (alone r) r s s (Push stack.B) 1 (fetches_push s enters.loaded) refl) (pushes s enters.loaded)

pub depth_law : (depth : ℕ) → AllRunsAreGood (alone (pushing depth [])) ↔ (2 ≤ depth)
depth_law depth = (
  λ good. elim (cases_lt depth 2) [
    | inl short ↦
        let s : State = ready cells 0x100 0x2380 in
        let kept : cell 0x237E (pushed s).core ≡ cell 0x237E s.core = (at_pop depth [] (omega arith) good).keeps.memory 0x237E (lit< tt) (λ area h. λ inside. omega (arith, h.1)) (λ inside. omega (arith, inside.1)) in
        let new : cell 0x237E (pushed s).core ≡ 2 = low_byte s (memory_long cells) (lit≤ tt) (lit< tt) in
        let old : cell 0x237E s.core ≡ 0 = memory_at cells 0x237E (lit< tt) in
        absurd (omega (arith, kept, new, old))
    | inr deep ↦ deep
  ],
  λ deep. all_alone (pushing depth []) (λ s enters. good_run depth [] s deep (All-nil _) enters),
)

-- ---- the word that was pushed
same_word : (a b : ℕ) (core : Core) → a % 65536 ≡ b % 65536 → word a core ≡ word b core
same_word a b core same =
    let next : (a + 1) % 65536 ≡ (b + 1) % 65536 = omega arith in
    ap (λ x. slice_index core.cells x + 256 * cell (a + 1) core) same ∙ ap (λ x. cell b core + 256 * slice_index core.cells x) next

pub word_good : AllRunsAreGood (alone (pushing 2 (pushed_word 1 ∷ [])))
word_good = all_alone (pushing 2 (pushed_word 1 ∷ [])) (λ s entry.
    let room = entry.room refl in
    let below : 0x2302 ≤ s.core.sp = room.below in
    let top : s.core.sp < 65536 = entry.state.core.sp in
    let there : (s.core.sp + 65536 - 2 * 1) % 65536 ≡ (s.core.sp + 65534) % 65536 % 65536 = omega arith in
    let is : word (s.core.sp + 65536 - 2 * 1) (pushed s).core ≡ 256 * s.core.b + s.core.c =
    same_word (s.core.sp + 65536 - 2 * 1) ((s.core.sp + 65534) % 65536) (pushed s).core there
    ∙ word_on s entry.state.core.memory (omega arith) top ∙ omega arith in
    good_run 2 (pushed_word 1 ∷ []) s (lit≤ tt)
    (All-cons (Says (alone (pushing 2 (pushed_word 1 ∷ []))) (pushing 2 (pushed_word 1 ∷ [])) (placed s 0x100) (pushed s)) (pushed_word 1) [] (ap pos is) (All-nil (Says (alone (pushing 2 (pushed_word 1 ∷ []))) (pushing 2 (pushed_word 1 ∷ [])) (placed s 0x100) (pushed s)))) entry)

pub word_bad : ¬ AllRunsAreGood (alone (pushing 2 (pushed_word 2 ∷ [])))
word_bad good =
    let s : State = ready cells 0x100 0x2380 in
    let says : pos (word 0x237C (pushed s).core) ≡ pos 258 = same_address ((at_pop 2 (pushed_word 2 ∷ []) (lit≤ tt) good).asserts _ (1, lit< tt, refl) refl 0 (pushed_word 2) (lit< tt)) in
    let low : cell 0x237C (pushed s).core ≡ 0 = zero_at 0x237C (lit< tt) (lit≤ tt) in
    let high : cell 0x237D (pushed s).core ≡ 0 = zero_at 0x237D (lit< tt) (lit≤ tt) in
    let is : cell 0x237C (pushed s).core + 256 * cell 0x237D (pushed s).core ≡ 258 = same_pos _ _ says in
    omega (arith, low, high, is)
  where
    same_pos : (m n : ℕ) → pos m ≡ pos n → m ≡ n
    same_pos m n h = cc

    same_address : pos (word 0x1237C (pushed (ready cells 0x100 0x2380)).core) ≡ pos 258 → pos (word 0x237C (pushed (ready cells 0x100 0x2380)).core) ≡ pos 258
    same_address h = h

    zero_at : (a : ℕ) → a < 0x237E → 0x2300 ≤ a → cell a (pushed (ready cells 0x100 0x2380)).core ≡ 0
    zero_at a under over =
        cell_apart (slice_set (memory_of cells) 0x237F 1) (a % 65536) 0x237E 2 (λ h. omega arith)
        ∙ cell_apart (memory_of cells) (a % 65536) 0x237F 1 (λ h. omega arith)
        ∙ memory_at cells (a % 65536) (omega arith) ∙ ap (λ o. unwrap_or o 0) (none_past cells (a % 65536) refl (omega arith))
