-- RET with an assertion on memory.
use Rattle.std.proofs.Common.{◌≡◌, ◌≢◌, ℕ, ◌<◌, ◌≤◌, Bool, true, false, cond, List, [], ◌∷◌, refl, sym, ap, ◌∙◌, arith, Some, lit<, lit≤, get_or-set_same, pos}
use Rattle.std.specs.Prelude.{All, slice_index, slice_set, ◌↔◌}
use Rattle.std.proofs.lemmas.List.Elements.{All-nil, All-cons}
use Rattle.std.specs.Ordering.{nat_cmp}
use Rattle.std.specs.FinMap as maps
use Rattle.std.specs.FinMap.{find}
use Rattle.sp_isa.specs.declared.instr.Instr.TheVariants.{Ret}
use Rattle.sp_model.specs.State.{State, next_instr}
use Rattle.sp_model.specs.Unit.{Stmt, Routine, Unit}
use Rattle.sp_model.specs.Good.{Loaded, IsEntry, AllRunsAreGood}
use Rattle.sp_examples.specs.Units.{alone, bytes_of}
use Rattle.sp_examples.specs.States.{ready, memory_of}
use Rattle.sp_examples.proofs.RunLemmas.{IsGoodFrom}
use Rattle.sp_examples.proofs.KeepsLemmas.{loaded_apart, keeps_itself}
use Rattle.sp_examples.proofs.EntryLemmas.{high_image, state_of_bytes, fetch, low_image, placed, memory_long, ready_loaded}
use Rattle.sp_examples.proofs.GoodLemmas.{Says, back}
use Rattle.sp_examples.proofs.AloneLemmas.{one_of, all_alone, at_entry, finish}
use Rattle.std.specs.Prelude.{nat_le, ◌&&◌}
use Rattle.std.proofs.lemmas.Bool.{leb-true}
use Rattle.std.proofs.lemmas.Bool.Decides.{nat_tests}
use Rattle.sp_examples.specs.Units.{watch, cell_is_zero, only}

abbrev cells : List (ℕ × ℕ)
cells = bytes_of (only Ret).code

fetches_ret : (t : State) → t.core.pc ≡ 0x100 → Loaded (maps.from_sorted cells) t → next_instr t.core ≡ Some (Ret, 1)
fetches_ret t here loaded = fetch cells t Ret refl loaded refl (ap (λ pc. find nat_cmp pc cells ∷ []) here)

-- memory with a 1 at an address
abbrev marked : ℕ → State
marked w = ready ((w, 1) ∷ cells) 0x100 0x2380

marked_cells : (w : ℕ) → (marked w).core.cells ≡ slice_set (memory_of cells) w 1
unfolding memory_of
marked_cells w = refl

only_there : (a byte : ℕ) → maps.get (maps.from_sorted {R = nat_cmp} cells) a ≡ Some byte → a ≡ 0x100
only_there a byte there = let high = high_image 0x100 cells refl refl a byte there in let low = low_image 0x101 cells refl refl a byte there in omega arith

pub entry : (w : ℕ) → w ≢ 0x100 → IsEntry (alone (watch w)) (watch w) (marked w)
entry w other = record {
  state = state_of_bytes ((w, 1) ∷ cells) 0x100 0x2380 (lit< tt, (lit< tt, tt)) (lit< tt) (lit< tt);
  loaded = loaded_apart (maps.from_sorted cells) (ready cells 0x100 0x2380) (marked w) w 1 (λ a byte there. let is = only_there a byte there in (omega arith, λ h. other (sym h ∙ is))) (marked_cells w) (ready_loaded cells 0x100 0x2380 refl refl);
  begins = refl;
  running = refl;
  pre = All-nil (Says (alone (watch w)) (watch w) (marked w) (marked w));
  room = λ h. record { below = lit≤ tt; above = lit≤ tt };
}

both_true : (a b : Bool) → (a && b) ≡ true → (a ≡ true) × (b ≡ true)
both_true true b h = (refl, h)
both_true false b h = cc

in_region : (w : ℕ) → (nat_le 0x2300 w && nat_le w 0x23FF) ≡ true → (0x2300 ≤ w) × (w ≤ 0x23FF)
in_region w h = let both = both_true (nat_le 0x2300 w) (nat_le w 0x23FF) h in (leb-true 0x2300 w both.0, leb-true w 0x23FF both.1)

region_in : (w : ℕ) → 0x2300 ≤ w → w ≤ 0x23FF → (nat_le 0x2300 w && nat_le w 0x23FF) ≡ true
region_in w low high = grind (arith, nat_tests)

same_pos : (m n : ℕ) → pos m ≡ pos n → m ≡ n
same_pos m n h = cc

zero_shown : (w : ℕ) → w < 65536 → (b : Bool) → (nat_le 0x2300 w && nat_le w 0x23FF) ≡ b → cond b (pos 0) (pos (slice_index (marked w).core.cells w)) ≡ pos 0 → (0x2300 ≤ w) × (w ≤ 0x23FF)
zero_shown w small true is h = in_region w is
zero_shown w small false is h =
    let one : slice_index (marked w).core.cells w ≡ 1 = ap (λ m. slice_index m w) (marked_cells w) ∙ get_or-set_same (memory_of cells) w 1 0 (omega (arith, memory_long cells)) in
    let zero : slice_index (marked w).core.cells w ≡ 0 = same_pos (slice_index (marked w).core.cells w) 0 h in
    absurd (omega arith)

ret_run : (w : ℕ) (s : State) → 0x2300 ≤ w → w ≤ 0x23FF → IsEntry (alone (watch w)) (watch w) (placed s 0x100) → IsGoodFrom (alone (watch w)) (watch w) (placed s 0x100) (placed s 0x100)
ret_run w s low high entry =
    let u : Unit = alone (watch w) in
    let r : Routine = watch w in
    let t : State = placed s 0x100 in
    let room = entry.room refl in
    let holds : All (Says u r t t) (cell_is_zero w ∷ []) = All-cons (Says u r t t) (cell_is_zero w) [] (ap (λ b. cond b (pos 0) (pos (slice_index s.core.cells w))) (region_in w low high)) (All-nil (Says u r t t)) in
    finish u r t t refl (fetches_ret t refl entry.loaded) entry.state (keeps_itself u r t)
    (r, (0, lit< tt, refl), (_, (0, lit< tt, refl), refl))
    (λ i there here. one_of (λ (i : Stmt). All (Says u r t t) i.asserts) (record { address = 0x100; instr = Ret; asserts = cell_is_zero w ∷ [] }) holds i there)
    refl (omega (arith, room.above)) refl (All-nil (Says u r t (back t))) (λ x out. refl)

pub watch_law : (w : ℕ) → w < 65536 → w ≢ 0x100 → AllRunsAreGood (alone (watch w)) ↔ ((0x2300 ≤ w) × (w ≤ 0x23FF))
watch_law w small other = (
  λ good. zero_shown w small (nat_le 0x2300 w && nat_le w 0x23FF) refl
      ((at_entry (watch w) (marked w) good (entry w other)).asserts _ (0, lit< tt, refl) refl 0 (cell_is_zero w) (lit< tt)),
  λ h. all_alone (watch w) (λ s enters. ret_run w s h.0 h.1 enters),
)
