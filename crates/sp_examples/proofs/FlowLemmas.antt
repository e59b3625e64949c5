-- Where a run goes: within the code of the program's routines, or out of it.
use Rattle.std.proofs.Common.{◌≡◌, ℕ, zero, suc, ◌%◌, ◌<◌, true, false, List, [], ◌∷◌, refl, sym, ap, subst, ◌∙◌, arith, Some, ◌⊎◌, inl, inr, lit<, lit≤, pos, ◌/◌}
use Rattle.std.specs.Prelude.{Contains, ◌↔◌}
use Rattle.std.proofs.lemmas.List.Elements.{All-nil}
use Rattle.std.specs.Ordering.{nat_cmp}
use Rattle.std.specs.FinMap as maps
use Rattle.std.specs.FinMap.{is_sorted}
use Rattle.sp_isa.specs.declared.instr.Instr.TheVariants.{Ret, Nop, Jmp}
use Rattle.sp_isa.specs.Core.{with_pc, advance}
use Rattle.sp_isa.specs.Effect.{effect}
use Rattle.sp_model.specs.Note.{Note}
use Rattle.sp_model.specs.State.{State, next_instr, step, run}
use Rattle.sp_model.specs.Unit.{Stmt, Routine, Unit}
use Rattle.sp_model.specs.Good.{Keeps, Loaded, IsEntry, IsGoodAt, IsReturnStep, IsGood, AllRunsAreGood}
use Rattle.sp_examples.specs.Units.{alone, line, a_is, bytes_of}
use Rattle.sp_examples.specs.States.{ready}
use Rattle.sp_examples.proofs.RunLemmas.{step_quiet, IsGoodFrom, goes, good_of}
use Rattle.sp_examples.proofs.KeepsLemmas.{keeps_itself, keeps_still}
use Rattle.sp_examples.proofs.EntryLemmas.{bytes_from, state_of_bytes, fetch, placed, placed_is, ready_state, ready_loaded}
use Rattle.sp_examples.proofs.GoodLemmas.{HasNoAsserts, Says, good_step, not_return, back, unasserted}
use Rattle.sp_examples.proofs.AloneLemmas.{two_of, one_of, all_alone, after_one, finish, at_moved, loaded_still}
use Rattle.sp_examples.specs.Units.{unit_of, hop, landing, run_on}

-- ---- falling off the end
abbrev nop_cells : List (ℕ × ℕ)
nop_cells = bytes_of (run_on []).code

abbrev ret_cells : List (ℕ × ℕ)
ret_cells = bytes_of (run_on (line 0x101 Ret ∷ [])).code

-- the state after the NOP
abbrev gone_on : State → State
gone_on s = record s { core = record s.core { pc = 0x101; halted = false } }

pub off_entry : IsEntry (alone (run_on [])) (run_on []) (ready nop_cells 0x100 0x2380)
off_entry = record {
  state = ready_state nop_cells 0x100 0x2380 refl (lit< tt) (lit< tt);
  loaded = ready_loaded nop_cells 0x100 0x2380 refl refl;
  begins = refl;
  running = refl;
  pre = All-nil (Says (alone (run_on [])) (run_on []) (ready nop_cells 0x100 0x2380) (ready nop_cells 0x100 0x2380));
  room = λ h. record { below = lit≤ tt; above = lit≤ tt };
}

fetches_nop : (cells : List (ℕ × ℕ)) (s : State) → is_sorted nat_cmp cells ≡ true → bytes_from cells 0x100 1 ≡ Some 0 ∷ [] → Loaded (maps.from_sorted cells) (placed s 0x100) → next_instr (placed s 0x100).core ≡ Some (Nop, 1)
fetches_nop cells s sorted there loaded = fetch cells (placed s 0x100) Nop sorted loaded refl there

steps_nop : (s : State) → next_instr (placed s 0x100).core ≡ Some (Nop, 1) → step (placed s 0x100) ≡ gone_on s
unfolding effect advance with_pc
steps_nop s is = step_quiet (placed s 0x100) Nop 1 refl is refl refl

pub off_bad : ¬ AllRunsAreGood (alone (run_on []))
off_bad good =
    let s : State = ready nop_cells 0x100 0x2380 in
    let r : Routine = run_on [] in
    let is : next_instr s.core ≡ Some (Nop, 1) = fetches_nop nop_cells s refl refl off_entry.loaded in
    let after = after_one r s (gone_on s) good off_entry (not_return (alone r) r s s Nop 1 is refl) (steps_nop s is) in
    one_of (λ (q : Routine). (i : Stmt) → Contains q.code i → i.address ≡ 0x101 → ⊥) r
    (one_of (λ (i : Stmt). i.address ≡ 0x101 → ⊥) (line 0x100 Nop) (λ h. omega arith))
    after.in_code.0 after.in_code.1 after.in_code.2.0 after.in_code.2.1 after.in_code.2.2

pub on_entry : IsEntry (alone (run_on (line 0x101 Ret ∷ []))) (run_on (line 0x101 Ret ∷ [])) (ready ret_cells 0x100 0x2380)
on_entry = record {
  state = ready_state ret_cells 0x100 0x2380 refl (lit< tt) (lit< tt);
  loaded = ready_loaded ret_cells 0x100 0x2380 refl refl;
  begins = refl;
  running = refl;
  pre = All-nil (Says (alone (run_on (line 0x101 Ret ∷ []))) (run_on (line 0x101 Ret ∷ [])) (ready ret_cells 0x100 0x2380) (ready ret_cells 0x100 0x2380));
  room = λ h. record { below = lit≤ tt; above = lit≤ tt };
}

on_run : (s : State) → IsEntry (alone (run_on (line 0x101 Ret ∷ []))) (run_on (line 0x101 Ret ∷ [])) (placed s 0x100) → IsGoodFrom (alone (run_on (line 0x101 Ret ∷ []))) (run_on (line 0x101 Ret ∷ [])) (placed s 0x100) (placed s 0x100)
on_run s entry =
    let r : Routine = run_on (line 0x101 Ret ∷ []) in
    let u : Unit = alone r in
    let t : State = placed s 0x100 in
    let v : State = gone_on s in
    let room = entry.room refl in
    let is : next_instr t.core ≡ Some (Nop, 1) = fetches_nop ret_cells s refl refl entry.loaded in
    let kept : Keeps u r t v = keeps_still u r t t v (keeps_itself u r t) refl refl in
    let loaded : Loaded u.image v = loaded_still u.image t v refl entry.loaded in
    goes u r t t v
    (good_step u r t t Nop 1 is (keeps_itself u r t) (r, (0, lit< tt, refl), (_, (0, lit< tt, refl), refl)) (unasserted u r t t (refl, (refl, tt))) (λ port h. cc) refl)
    (steps_nop s is)
    (finish u r t v refl (fetch ret_cells v Ret refl loaded refl refl) entry.state kept
    (r, (0, lit< tt, refl), (_, (1, lit< tt, refl), refl)) (unasserted u r t v (refl, (refl, tt)))
    refl (omega (arith, room.above)) refl (All-nil (Says u r t (back v)))
    (λ x out. at_moved x s.core s.core.sp 0x101 false s.core.cells ∙ sym (at_moved x s.core s.core.sp 0x100 false s.core.cells)))

pub on_good : AllRunsAreGood (alone (run_on (line 0x101 Ret ∷ [])))
on_good = all_alone (run_on (line 0x101 Ret ∷ [])) (λ s entry. on_run s entry)

-- ---- jumps to another routine
abbrev both : ℕ → List Note → Unit
both w asserts = unit_of (hop w ∷ landing asserts ∷ [])

abbrev hop_cells : ℕ → List (ℕ × ℕ)
hop_cells w = (0x100, 0xC3) ∷ (0x101, w % 256) ∷ (0x102, w / 256) ∷ (0x110, 0xC9) ∷ []

-- the state after the JMP
abbrev hopped : ℕ → State → State
hopped w s = record s { core = record s.core { pc = w; halted = false } }

fetches_jmp : (w : ℕ) (s : State) → Loaded (maps.from_sorted (hop_cells w)) (placed s 0x100) → next_instr (placed s 0x100).core ≡ Some (Jmp w, 3)
fetches_jmp w s loaded = fetch (hop_cells w) (placed s 0x100) (Jmp w) refl loaded refl refl

jumps : (w : ℕ) (s : State) → w < 65536 → Loaded (maps.from_sorted (hop_cells w)) (placed s 0x100) → step (placed s 0x100) ≡ hopped w s
unfolding effect with_pc
jumps w s small loaded =
    let same : w % 65536 ≡ w = omega arith in
    step_quiet (placed s 0x100) (Jmp w) 3 refl (fetches_jmp w s loaded) refl refl
    ∙ ap (λ pc. record s { core = record s.core { pc = pc; halted = false } }) same

pub hop_entry : (w : ℕ) (asserts : List Note) → w < 65536 → IsEntry (both w asserts) (hop w) (ready (hop_cells w) 0x100 0x2380)
hop_entry w asserts small = record {
  state = state_of_bytes (hop_cells w) 0x100 0x2380 (lit< tt, (omega arith, (omega arith, (lit< tt, tt)))) (lit< tt) (lit< tt);
  loaded = ready_loaded (hop_cells w) 0x100 0x2380 refl refl;
  begins = refl;
  running = refl;
  pre = All-nil (Says (both w asserts) (hop w) (ready (hop_cells w) 0x100 0x2380) (ready (hop_cells w) 0x100 0x2380));
  room = λ h. record { below = lit≤ tt; above = lit≤ tt };
}

good_jump : (w : ℕ) (asserts : List Note) (s : State) → Loaded (maps.from_sorted (hop_cells w)) (placed s 0x100) → IsGoodAt (both w asserts) (hop w) (placed s 0x100) (placed s 0x100)
good_jump w asserts s loaded =
    let u : Unit = both w asserts in
    let t : State = placed s 0x100 in
    good_step u (hop w) t t (Jmp w) 3 (fetches_jmp w s loaded) (keeps_itself u (hop w) t)
    (hop w, (0, lit< tt, refl), (_, (0, lit< tt, refl), refl)) (unasserted u (hop w) t t (refl, tt)) (λ port h. cc) refl

-- to the other routine, whose assertions aren't those of the first
hop_there : (asserts : List Note) (s : State) → IsEntry (both 0x110 asserts) (hop 0x110) (placed s 0x100) → IsGoodFrom (both 0x110 asserts) (hop 0x110) (placed s 0x100) (placed s 0x100)
hop_there asserts s entry =
    let r : Routine = hop 0x110 in
    let u : Unit = both 0x110 asserts in
    let t : State = placed s 0x100 in
    let v : State = hopped 0x110 s in
    let room = entry.room refl in
    let kept : Keeps u r t v = keeps_still u r t t v (keeps_itself u r t) refl refl in
    let loaded : Loaded u.image v = loaded_still u.image t v refl entry.loaded in
    goes u r t t v (good_jump 0x110 asserts s entry.loaded) (jumps 0x110 s (lit< tt) entry.loaded)
    (finish u r t v refl (fetch (hop_cells 0x110) v Ret refl loaded refl refl) entry.state kept
    (landing asserts, (1, lit< tt, refl), (_, (0, lit< tt, refl), refl)) (unasserted u r t v (refl, tt))
    refl (omega (arith, room.above)) refl (All-nil (Says u r t (back v)))
    (λ x out. at_moved x s.core s.core.sp 0x110 false s.core.cells ∙ sym (at_moved x s.core s.core.sp 0x100 false s.core.cells)))

-- to itself, for ever
hop_here : (asserts : List Note) (s : State) → IsEntry (both 0x100 asserts) (hop 0x100) (placed s 0x100) → IsGoodFrom (both 0x100 asserts) (hop 0x100) (placed s 0x100) (placed s 0x100)
hop_here asserts s entry i none =
    subst (IsGoodAt (both 0x100 asserts) (hop 0x100) (placed s 0x100)) (sym (stays i)) (good_jump 0x100 asserts s entry.loaded)
  where
    stays : (i : ℕ) → run (placed s 0x100) i ≡ placed s 0x100
    stays zero = refl
    stays (suc i) = ap step (stays i) ∙ jumps 0x100 s (lit< tt) entry.loaded

land : (w : ℕ) (asserts : List Note) (s : State) → HasNoAsserts (landing asserts).code → IsEntry (both w asserts) (landing asserts) (placed s 0x110) → IsGoodFrom (both w asserts) (landing asserts) (placed s 0x110) (placed s 0x110)
land w asserts s silent entry =
    let r : Routine = landing asserts in
    let u : Unit = both w asserts in
    let t : State = placed s 0x110 in
    let room = entry.room refl in
    finish u r t t refl (fetch (hop_cells w) t Ret refl entry.loaded refl refl) entry.state (keeps_itself u r t)
    (r, (1, lit< tt, refl), (_, (0, lit< tt, refl), refl)) (unasserted u r t t silent)
    refl (omega (arith, room.above)) refl (All-nil (Says u r t (back t))) (λ x out. refl)

hop_from : (w : ℕ) (s : State) → (w ≡ 0x100) ⊎ (w ≡ 0x110) → IsEntry (both w []) (hop w) (placed s 0x100) → IsGoodFrom (both w []) (hop w) (placed s 0x100) (placed s 0x100)
hop_from w s (inl is) = subst (λ w. IsEntry (both w []) (hop w) (placed s 0x100) → IsGoodFrom (both w []) (hop w) (placed s 0x100) (placed s 0x100)) (sym is) (hop_here [] s)
hop_from w s (inr is) = subst (λ w. IsEntry (both w []) (hop w) (placed s 0x100) → IsGoodFrom (both w []) (hop w) (placed s 0x100) (placed s 0x100)) (sym is) (hop_there [] s)

-- all runs from states at the routine's address
all_at : (u : Unit) (r : Routine) → ((s : State) → IsEntry u r (placed s r.address) → IsGoodFrom u r (placed s r.address) (placed s r.address)) → (s : State) → IsEntry u r s → (n : ℕ) → IsGood u r s n
all_at u r good s entry n =
    let is : s ≡ placed s r.address = placed_is s r.address entry.begins entry.running in
    subst (λ t. IsGood u r t n) (sym is) (good_of u r (placed s r.address) (good s (subst (IsEntry u r) is entry)) n)

pub hop_law : (w : ℕ) → w < 65536 → AllRunsAreGood (unit_of (hop w ∷ landing [] ∷ [])) ↔ ((w ≡ 0x100) ⊎ (w ≡ 0x110))
hop_law w small = (
  λ good.
      let s : State = ready (hop_cells w) 0x100 0x2380 in
      let entry : IsEntry (both w []) (hop w) s = hop_entry w [] small in
      let is : next_instr s.core ≡ Some (Jmp w, 3) = fetches_jmp w s entry.loaded in
      let after : IsGoodAt (both w []) (hop w) s (hopped w s) = subst (IsGoodAt (both w []) (hop w) s) (jumps w s small entry.loaded)
      (good (hop w) (0, lit< tt, refl) s entry 1 1 (lit≤ tt) (λ k less. stays w s is k less)) in
      two_of (λ (q : Routine). (i : Stmt) → Contains q.code i → i.address ≡ w → (w ≡ 0x100) ⊎ (w ≡ 0x110)) (hop w) (landing [])
      (one_of (λ (i : Stmt). i.address ≡ w → (w ≡ 0x100) ⊎ (w ≡ 0x110)) (line 0x100 (Jmp w)) (λ h. inl (sym h)))
      (one_of (λ (i : Stmt). i.address ≡ w → (w ≡ 0x100) ⊎ (w ≡ 0x110)) (line 0x110 Ret) (λ h. inr (sym h)))
      after.in_code.0 after.in_code.1 after.in_code.2.0 after.in_code.2.1 after.in_code.2.2,
  λ to. two_of (λ q. (s : State) → IsEntry (both w []) q s → (n : ℕ) → IsGood (both w []) q s n) (hop w) (landing [])
      (all_at (both w []) (hop w) (λ s entry. hop_from w s to entry))
      (all_at (both w []) (landing []) (λ s entry. land w [] s (refl, tt) entry)),
)
  where
    stays : (w : ℕ) (s : State) → next_instr s.core ≡ Some (Jmp w, 3) → (k : ℕ) → k < 1 → ¬ IsReturnStep (both w []) (hop w) s (run s k)
    stays w s is zero less = not_return (both w []) (hop w) s s (Jmp w) 3 is refl
    stays w s is (suc k) less = absurd (omega arith)

-- the first routine is good whatever is asserted in the second, which isn't
pub first_good : (n : ℕ) → (s : State) → IsEntry (unit_of (hop 0x110 ∷ landing (a_is 5 ∷ []) ∷ [])) (hop 0x110) s → IsGood (unit_of (hop 0x110 ∷ landing (a_is 5 ∷ []) ∷ [])) (hop 0x110) s n
first_good n s entry = all_at (both 0x110 (a_is 5 ∷ [])) (hop 0x110) (λ s entry. hop_there (a_is 5 ∷ []) s entry) s entry n

pub second_bad : ¬ AllRunsAreGood (unit_of (hop 0x110 ∷ landing (a_is 5 ∷ []) ∷ []))
second_bad good =
    let u : Unit = both 0x110 (a_is 5 ∷ []) in
    let r : Routine = landing (a_is 5 ∷ []) in
    let s : State = ready (hop_cells 0x110) 0x110 0x2380 in
    let entry : IsEntry u r s = record {
      state = ready_state (hop_cells 0x110) 0x110 0x2380 refl (lit< tt) (lit< tt);
      loaded = ready_loaded (hop_cells 0x110) 0x110 0x2380 refl refl;
      begins = refl;
      running = refl;
      pre = All-nil (Says u r s s);
      room = λ h. record { below = lit≤ tt; above = lit≤ tt };
    } in
    five_seven ((good r (1, lit< tt, refl) s entry 0 0 (lit≤ tt) (λ k less. absurd (omega arith))).asserts _ (0, lit< tt, refl) refl 0 (a_is 5) (lit< tt))
  where
    five_seven : pos 7 ≡ pos 5 → ⊥
    five_seven h = cc
