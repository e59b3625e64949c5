-- STA w and HLT: what a routine may write below its base.
use Rattle.std.proofs.Common.{◌≡◌, ℕ, zero, suc, ◌+◌, ◌%◌, ◌<◌, ◌≤◌, Bool, true, false, List, refl, sym, ap, subst, ◌∙◌, arith, Some, ◌⊎◌, inl, inr, lit<, get_or-set_same}
use Rattle.std.specs.Prelude.{slice_index, slice_set, unwrap_or, ◌↔◌}
use Rattle.std.proofs.lemmas.List.Elements.{All-nil}
use Rattle.std.proofs.lemmas.Bool.{cases_lt}
use Rattle.std.specs.FinMap as maps
use Rattle.sp_isa.specs.declared.instr.Instr.TheVariants.{Sta, Hlt}
use Rattle.sp_isa.specs.Core.{with_cell, with_pc, with_halted, advance}
use Rattle.sp_isa.specs.Effect.{effect}
use Rattle.sp_model.specs.State.{State, next_instr, step, run}
use Rattle.sp_model.specs.Unit.{Routine, Unit}
use Rattle.sp_model.specs.Good.{Keeps, Loaded, InAllotment, IsEntry, IsGoodAt, IsReturnStep, AllRunsAreGood}
use Rattle.sp_examples.specs.Units.{alone, bytes_of}
use Rattle.sp_examples.specs.States.{ready, memory_of}
use Rattle.sp_examples.proofs.RunLemmas.{step_quiet, IsGoodFrom, goes, halts}
use Rattle.sp_examples.proofs.KeepsLemmas.{keeps_itself, keeps_still, keeps_written}
use Rattle.sp_examples.proofs.EntryLemmas.{fetch, low_image, placed, memory_at, memory_long, ready_loaded}
use Rattle.sp_examples.proofs.GoodLemmas.{Says, good_step, not_return, unasserted}
use Rattle.sp_examples.proofs.AloneLemmas.{all_alone}
use Rattle.sp_model.specs.Good.{IsGood}
use Rattle.sp_examples.specs.Units.{write}
use Rattle.sp_examples.proofs.RunLemmas.{good_of}
use Rattle.sp_examples.proofs.KeepsLemmas.{loaded_written}
use Rattle.sp_examples.proofs.EntryLemmas.{state_of_bytes, none_past}

abbrev cells : ℕ → List (ℕ × ℕ)
cells w = bytes_of (write false 0 w).code

-- the state after the STA
abbrev stored : ℕ → State → State
stored w s = record s { core = record s.core { pc = 0x103; halted = false; cells = slice_set s.core.cells w s.core.a } }

-- the state after the HLT
abbrev halted : ℕ → State → State
halted w s = record s { core = record s.core { pc = 0x103; halted = true; cells = slice_set s.core.cells w s.core.a } }

fetches_sta : (w : ℕ) (s : State) → Loaded (maps.from_sorted (cells w)) (placed s 0x100) → next_instr (placed s 0x100).core ≡ Some (Sta w, 3)
fetches_sta w s loaded = fetch (cells w) (placed s 0x100) (Sta w) refl loaded refl refl

stores : (w : ℕ) (s : State) → w < 65536 → Loaded (maps.from_sorted (cells w)) (placed s 0x100) → step (placed s 0x100) ≡ stored w s
unfolding effect advance with_pc with_cell
stores w s small loaded =
    let same : w % 65536 ≡ w = omega arith in
    step_quiet (placed s 0x100) (Sta w) 3 refl (fetches_sta w s loaded) refl refl
    ∙ ap (λ a. record s { core = record s.core { pc = 0x103; halted = false; cells = slice_set s.core.cells a s.core.a } }) same

still : (w : ℕ) (s : State) → 0x200 ≤ w → Loaded (maps.from_sorted (cells w)) (placed s 0x100) → Loaded (maps.from_sorted (cells w)) (stored w s)
still w s high loaded = loaded_written (maps.from_sorted (cells w)) (placed s 0x100) (stored w s) w s.core.a (low_image 0x200 (cells w) refl refl) high refl loaded

fetches_hlt : (w : ℕ) (s : State) → Loaded (maps.from_sorted (cells w)) (stored w s) → next_instr (stored w s).core ≡ Some (Hlt, 1)
fetches_hlt w s loaded = fetch (cells w) (stored w s) Hlt refl loaded refl refl

stops : (w : ℕ) (s : State) → Loaded (maps.from_sorted (cells w)) (stored w s) → step (stored w s) ≡ halted w s
unfolding effect with_halted
stops w s loaded = step_quiet (stored w s) Hlt 1 refl (fetches_hlt w s loaded) refl refl

-- at the HLT, halted or not
good_last : (start : Bool) (depth w : ℕ) (s t : State) → Keeps (alone (write start depth w)) (write start depth w) s t → t.core.pc ≡ 0x103 → next_instr t.core ≡ Some (Hlt, 1) → IsGoodAt (alone (write start depth w)) (write start depth w) s t
good_last start depth w s t kept here is =
    let u : Unit = alone (write start depth w) in
    let r : Routine = write start depth w in
    good_step u r s t Hlt 1 is kept (r, (0, lit< tt, refl), (_, (1, lit< tt, refl), sym here)) (unasserted u r s t (refl, (refl, tt))) (λ port h. cc) refl

pub good_run : (start : Bool) (depth w : ℕ) (s : State) → 0x200 ≤ w → w < 65536 → InAllotment (alone (write start depth w)) (write start depth w) (placed s 0x100) w → Loaded (maps.from_sorted (cells w)) (placed s 0x100) → IsGoodFrom (alone (write start depth w)) (write start depth w) (placed s 0x100) (placed s 0x100)
good_run start depth w s high small may loaded =
    let u : Unit = alone (write start depth w) in
    let r : Routine = write start depth w in
    let t : State = placed s 0x100 in
    let v : State = stored w s in
    let kept : Keeps u r t v = keeps_written u r t t v w s.core.a (keeps_itself u r t) refl refl (inr may) in
    let after : Loaded u.image v = still w s high loaded in
    goes u r t t v
    (good_step u r t t (Sta w) 3 (fetches_sta w s loaded) (keeps_itself u r t)
    (r, (0, lit< tt, refl), (_, (0, lit< tt, refl), refl)) (unasserted u r t t (refl, (refl, tt))) (λ port h. cc) refl)
    (stores w s small loaded)
    (goes u r t v (halted w s) (good_last start depth w t v kept refl (fetches_hlt w s after)) (stops w s after)
    (halts u r t (halted w s) (good_last start depth w t (halted w s) (keeps_still u r t v (halted w s) kept refl refl) refl (fetches_hlt w s after)) refl))

-- what a run from a given state says of the cell
pub kept_from : (start : Bool) (depth w sp : ℕ) → 0x200 ≤ w → w < 65536 → IsGood (alone (write start depth w)) (write start depth w) (ready (cells w) 0x100 sp) 1 → (InAllotment (alone (write start depth w)) (write start depth w) (ready (cells w) 0x100 sp) w → ⊥) → ⊥
kept_from start depth w sp high small good out =
    let u : Unit = alone (write start depth w) in
    let r : Routine = write start depth w in
    let s : State = ready (cells w) 0x100 sp in
    let loaded : Loaded u.image s = ready_loaded (cells w) 0x100 sp refl refl in
    let after = subst (IsGoodAt u r s) (stores w s small loaded) (good 1 (omega arith) (λ k less. stays k less)) in
    let kept : slice_index (slice_set (memory_of (cells w)) w 7) (w % 65536) ≡ slice_index (memory_of (cells w)) (w % 65536) = after.keeps.memory w small (λ area h. λ inside. omega (arith, h.1)) out in
    let same : w % 65536 ≡ w = omega arith in
    let new : slice_index (slice_set (memory_of (cells w)) w 7) (w % 65536) ≡ 7 = ap (slice_index (slice_set (memory_of (cells w)) w 7)) same ∙ get_or-set_same (memory_of (cells w)) w 7 0 (omega (arith, memory_long (cells w))) in
    let old : slice_index (memory_of (cells w)) (w % 65536) ≡ 0 = ap (slice_index (memory_of (cells w))) same ∙ memory_at (cells w) w small ∙ ap (λ o. unwrap_or o 0) (none_past (cells w) w refl high) in
    omega (arith, new, old, kept)
  where
    stays : (k : ℕ) → k < 1 → ¬ IsReturnStep (alone (write start depth w)) (write start depth w) (ready (cells w) 0x100 sp) (run (ready (cells w) 0x100 sp) k)
    stays zero less = not_return (alone (write start depth w)) (write start depth w) (ready (cells w) 0x100 sp) (ready (cells w) 0x100 sp) (Sta w) 3 (fetches_sta w (ready (cells w) 0x100 sp) (ready_loaded (cells w) 0x100 sp refl refl)) refl
    stays (suc k) less = absurd (omega arith)

-- an address of so many bytes below a number
abbrev pub IsBelow : ℕ → ℕ → ℕ → Type 0
IsBelow top depth w = (w < top) × (top ≤ w + depth)

is_below : (top depth w : ℕ) → IsBelow top depth w ⊎ (IsBelow top depth w → ⊥)
is_below top depth w = elim (cases_lt w top) [
  | inl low ↦ elim (cases_lt (w + depth) top) [ inl far ↦ inr (λ h. omega (arith, h.1)) | inr near ↦ inl (low, near) ]
  | inr high ↦ inr (λ h. omega (arith, h.0))
]

pub below_law : (depth w sp : ℕ) → 0x200 ≤ w → w < 65536 → ((n : ℕ) → IsGood (alone (write false depth w)) (write false depth w) (ready (bytes_of (write false depth w).code) 0x100 sp) n) ↔ IsBelow sp depth w
below_law depth w sp high small = (
  λ good. elim (is_below sp depth w) [ inl h ↦ h | inr out ↦ absurd (kept_from false depth w sp high small (good 1) out) ],
  λ may. good_of (alone (write false depth w)) (write false depth w) (ready (cells w) 0x100 sp) (good_run false depth w (ready (cells w) 0x100 sp) high small may (ready_loaded (cells w) 0x100 sp refl refl)),
)

pub start_entry : (depth w sp : ℕ) → w < 65536 → sp < 65536 → IsEntry (alone (write true depth w)) (write true depth w) (ready (cells w) 0x100 sp)
start_entry depth w sp small room = record {
  state = state_of_bytes (cells w) 0x100 sp (lit< tt, (omega arith, (omega arith, (lit< tt, tt)))) (lit< tt) room;
  loaded = ready_loaded (cells w) 0x100 sp refl refl;
  begins = refl;
  running = refl;
  pre = All-nil (Says (alone (write true depth w)) (write true depth w) (ready (cells w) 0x100 sp) (ready (cells w) 0x100 sp));
  room = λ h. cc;
}

pub start_law : (depth w : ℕ) → 0x200 ≤ w → w < 65536 → AllRunsAreGood (alone (write true depth w)) ↔ IsBelow 0x2400 depth w
start_law depth w high small = (
  λ good. elim (is_below 0x2400 depth w) [
    | inl h ↦ h
    | inr out ↦ absurd (kept_from true depth w 0 high small (good (write true depth w) (0, lit< tt, refl) (ready (cells w) 0x100 0) (start_entry depth w 0 small (lit< tt)) 1) out)
  ],
  λ may. all_alone (write true depth w) (λ s entry. good_run true depth w s high small may entry.loaded),
)
