-- STA w and RET.
use Rattle.std.proofs.Common.{◌≡◌, ℕ, ◌+◌, ◌%◌, ◌<◌, ◌≤◌, false, List, [], refl, sym, ap, subst, ◌∙◌, arith, Option, Some, None, ◌⊎◌, inl, inr, lit<, lit≤, get_or-set_same}
use Rattle.std.specs.Prelude.{Contains, slice_index, slice_set, unwrap_or, ◌↔◌}
use Rattle.std.proofs.lemmas.List.Elements.{All-nil}
use Rattle.std.proofs.lemmas.Bool.{cases_lt}
use Rattle.std.specs.Ordering.{nat_cmp}
use Rattle.std.specs.FinMap as maps
use Rattle.std.specs.FinMap.{find}
use Rattle.sp_isa.specs.declared.instr.Instr.TheVariants.{Ret, Sta}
use Rattle.sp_isa.specs.Core.{cell, with_cell, with_pc, advance}
use Rattle.sp_isa.specs.Effect.{effect}
use Rattle.sp_model.specs.State.{State, next_instr, step}
use Rattle.sp_model.specs.Unit.{Area, Routine, Unit}
use Rattle.sp_model.specs.Good.{Keeps, Loaded, InArea, IsEntry, IsGoodAt, AllRunsAreGood}
use Rattle.sp_examples.specs.Units.{alone, store, bytes_of, IsFree}
use Rattle.sp_examples.specs.States.{ready, memory_of}
use Rattle.sp_examples.proofs.RunLemmas.{step_quiet, IsGoodFrom, goes}
use Rattle.sp_examples.proofs.KeepsLemmas.{keeps_itself, keeps_written, loaded_apart, cell_apart}
use Rattle.sp_examples.proofs.EntryLemmas.{fetch, low_image, high_image, get_is, state_of_bytes, placed, memory_at, memory_long, ready_loaded}
use Rattle.sp_examples.proofs.GoodLemmas.{Says, good_step, not_return, back, unasserted}
use Rattle.sp_examples.proofs.AloneLemmas.{all_alone, after_one, finish, word_kept, at_moved, found}

abbrev cells : ℕ → List (ℕ × ℕ)
cells w = bytes_of (store w [] []).code

-- the state after the STA
abbrev stored : ℕ → State → State
stored w s = record s { core = record s.core { pc = 0x103; halted = false; cells = slice_set s.core.cells w s.core.a } }

fetches_sta : (w : ℕ) (s : State) → Loaded (maps.from_sorted (cells w)) (placed s 0x100) → next_instr (placed s 0x100).core ≡ Some (Sta w, 3)
fetches_sta w s loaded = fetch (cells w) (placed s 0x100) (Sta w) refl loaded refl refl

steps : (w : ℕ) (s : State) → w < 65536 → Loaded (maps.from_sorted (cells w)) (placed s 0x100) → step (placed s 0x100) ≡ stored w s
unfolding effect advance with_pc with_cell
steps w s small loaded =
    let same : w % 65536 ≡ w = omega arith in
    step_quiet (placed s 0x100) (Sta w) 3 refl (fetches_sta w s loaded) refl refl
    ∙ ap (λ a. record s { core = record s.core { pc = 0x103; halted = false; cells = slice_set s.core.cells a s.core.a } }) same

good_first : (w : ℕ) (reads areas : List Area) (s : State) → Loaded (maps.from_sorted (cells w)) (placed s 0x100) → IsGoodAt (alone (store w reads areas)) (store w reads areas) (placed s 0x100) (placed s 0x100)
good_first w reads areas s loaded =
    let u : Unit = alone (store w reads areas) in
    let r : Routine = store w reads areas in
    let t : State = placed s 0x100 in
    good_step u r t t (Sta w) 3 (fetches_sta w s loaded) (keeps_itself u r t)
    (r, (0, lit< tt, refl), (_, (0, lit< tt, refl), refl)) (unasserted u r t t (refl, (refl, tt))) (λ port h. cc) refl

-- where the program's bytes are
code_at : (w : ℕ) (a byte : ℕ) → maps.get (maps.from_sorted {R = nat_cmp} (cells w)) a ≡ Some byte → (0x100 ≤ a) × (a < 0x104)
code_at w a byte there = (high_image 0x100 (cells w) refl refl a byte there, low_image 0x104 (cells w) refl refl a byte there)

-- the run is good where one of the areas has the cell
good_run : (w : ℕ) (reads areas : List Area) (area : Area) (s : State) → IsFree w → Contains areas area → InArea w area → IsEntry (alone (store w reads areas)) (store w reads areas) (placed s 0x100) → IsGoodFrom (alone (store w reads areas)) (store w reads areas) (placed s 0x100) (placed s 0x100)
good_run w reads areas area s free there inside entry =
    let u : Unit = alone (store w reads areas) in
    let r : Routine = store w reads areas in
    let t : State = placed s 0x100 in
    let v : State = stored w s in
    let room = entry.room refl in
    let small : w < 65536 = free.memory in
    let kept : Keeps u r t v = keeps_written u r t t v w s.core.a (keeps_itself u r t) refl refl (inl (area, there, inside)) in
    let loaded : Loaded u.image v = loaded_apart u.image t v w s.core.a (λ a byte is. let low = code_at w a byte is in (omega (arith, low.1), λ h. free.program (subst (λ x. (0x100 ≤ x) × (x < 0x104)) h low))) refl entry.loaded in
    let stays : (a : ℕ) → 0x2300 ≤ a → a ≤ 0x23FF → cell a v.core ≡ cell a s.core = λ a low upper.
    let same : a % 65536 ≡ a = omega arith in
    cell_apart s.core.cells (a % 65536) w s.core.a (λ h. free.stack (subst (λ x. (0x2300 ≤ x) × (x ≤ 0x23FF)) (sym same ∙ h) (low, upper))) in
    goes u r t t v (good_first w reads areas s entry.loaded) (steps w s small entry.loaded)
    (finish u r t v refl (fetch (cells w) v Ret refl loaded refl refl) entry.state kept
    (r, (0, lit< tt, refl), (_, (1, lit< tt, refl), refl)) (unasserted u r t v (refl, (refl, tt)))
    refl (omega (arith, room.above))
    (word_kept t v s.core.sp (stays s.core.sp (omega (arith, room.below)) (omega (arith, room.above))) (stays (s.core.sp + 1) (omega (arith, room.below)) (omega (arith, room.above))))
    (All-nil (Says u r t (back v)))
    (λ x out. at_moved x s.core s.core.sp 0x103 false (slice_set s.core.cells w s.core.a) ∙ sym (at_moved x s.core s.core.sp 0x100 false s.core.cells)))

-- an entry
pub entry : (w : ℕ) (reads areas : List Area) → w < 65536 → IsEntry (alone (store w reads areas)) (store w reads areas) (ready (cells w) 0x100 0x2380)
entry w reads areas small = record {
  state = state_of_bytes (cells w) 0x100 0x2380 (lit< tt, (omega arith, (omega arith, (lit< tt, tt)))) (lit< tt) (lit< tt);
  loaded = ready_loaded (cells w) 0x100 0x2380 refl refl;
  begins = refl;
  running = refl;
  pre = All-nil (Says (alone (store w reads areas)) (store w reads areas) (ready (cells w) 0x100 0x2380) (ready (cells w) 0x100 0x2380));
  room = λ h. record { below = lit≤ tt; above = lit≤ tt };
}

in_area : (w : ℕ) (area : Area) → InArea w area ⊎ (InArea w area → ⊥)
in_area w area = elim (cases_lt w area.address) [
  | inl high ↦ inr (λ h. omega (arith, h.0))
  | inr low ↦ elim (cases_lt w (area.address + area.len)) [ inl long ↦ inl (low, long) | inr short ↦ inr (λ h. omega (arith, h.1)) ]
]

nothing_at : (w : ℕ) → IsFree w → find nat_cmp w (cells w) ≡ None
nothing_at w free = none_of (find nat_cmp w (cells w)) (λ b is. free.program (code_at w w b (get_is (cells w) refl w ∙ is)))
  where
    none_of : (o : Option ℕ) → ((b : ℕ) → o ≡ Some b → ⊥) → o ≡ None
    none_of None h = refl
    none_of (Some b) h = absurd (h b refl)

written : (w : ℕ) → IsFree w → slice_index (slice_set (memory_of (cells w)) w 7) (w % 65536) ≡ slice_index (memory_of (cells w)) (w % 65536) → ⊥
written w free h =
    let small : w < 65536 = free.memory in
    let same : w % 65536 ≡ w = omega arith in
    let new : slice_index (slice_set (memory_of (cells w)) w 7) (w % 65536) ≡ 7 = ap (slice_index (slice_set (memory_of (cells w)) w 7)) same ∙ get_or-set_same (memory_of (cells w)) w 7 0 (omega (arith, memory_long (cells w))) in
    let old : slice_index (memory_of (cells w)) (w % 65536) ≡ 0 = ap (slice_index (memory_of (cells w))) same ∙ memory_at (cells w) w small ∙ ap (λ o. unwrap_or o 0) (nothing_at w free) in
    omega (arith, new, old, h)

pub store_law : (w : ℕ) (reads areas : List Area) → IsFree w → AllRunsAreGood (alone (store w reads areas)) ↔ ((area : Area) × Contains areas area × InArea w area)
store_law w reads areas free = (
  λ good. elim (found (InArea w) (in_area w) areas) [
    | inl h ↦ h
    | inr none ↦
        let u : Unit = alone (store w reads areas) in
        let r : Routine = store w reads areas in
        let s : State = ready (cells w) 0x100 0x2380 in
        let enters : IsEntry u r s = entry w reads areas free.memory in
        let after = after_one r s (stored w s) good enters (not_return u r s s (Sta w) 3 (fetches_sta w s enters.loaded) refl) (steps w s free.memory enters.loaded) in
        absurd (written w free (after.keeps.memory w free.memory none (λ h. omega (arith, h.0, h.1))))
  ],
  λ h. all_alone (store w reads areas) (λ s enters. good_run w reads areas h.0 s free h.1 h.2 enters),
)
