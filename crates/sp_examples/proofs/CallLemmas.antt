-- A start routine that calls a routine.
use Rattle.std.proofs.Common.{◌≡◌, ℕ, zero, suc, ◌+◌, ◌*◌, ◌%◌, ◌<◌, ◌≤◌, true, false, List, [], ◌∷◌, ◌++◌, length, refl, sym, ap, subst, ◌∙◌, arith, Some, inl, inr, lit<, lit≤, get_or-set_same, length-set}
use Rattle.std.specs.Prelude.{slice_index, slice_set, ◌↔◌}
use Rattle.std.proofs.lemmas.List.Elements.{All-nil}
use Rattle.std.proofs.lemmas.Bool.{cases_lt}
use Rattle.std.specs.Ordering.{nat_cmp}
use Rattle.std.specs.FinMap as maps
use Rattle.sp_isa.specs.declared.instr.StackPair.TheVariants as stack
use Rattle.sp_isa.specs.declared.instr.Instr.TheVariants.{Ret, Push, Pop, Lxi, Hlt}
use Rattle.sp_isa.specs.Core.{cell, with_cell, with_sp, with_pc, with_halted, advance}
use Rattle.sp_isa.specs.Operands.{with_pair}
use Rattle.sp_isa.specs.Stack.{push, call, ret}
use Rattle.sp_isa.specs.Effect.{effect}
use Rattle.sp_model.specs.State.{State, IsState, next_instr, step, run}
use Rattle.sp_model.specs.Unit.{Routine, Unit}
use Rattle.sp_model.specs.Good.{Keeps, Loaded, InAllotment, IsEntry, IsGoodAt, IsReturnStep, IsGood, AllRunsAreGood}
use Rattle.sp_examples.specs.Units.{bytes_of}
use Rattle.sp_examples.specs.States.{ready, memory_of}
use Rattle.sp_examples.proofs.RunLemmas.{step_quiet, IsGoodFrom, goes, halts, good_of}
use Rattle.sp_examples.proofs.KeepsLemmas.{keeps_itself, keeps_still, keeps_written, loaded_written, cell_apart}
use Rattle.sp_examples.proofs.EntryLemmas.{loaded_part, fetch, low_image, placed, placed_is, memory_at, memory_long, ready_state, ready_loaded}
use Rattle.sp_examples.proofs.GoodLemmas.{HasNoAsserts, Says, good_step, good_away, not_return, step_ret, unasserted}
use Rattle.sp_examples.proofs.AloneLemmas.{two_of, wider, loaded_still}
use Rattle.sp_base.specs.declared.pair.Pair.TheVariants as pair
use Rattle.sp_isa.specs.declared.instr.Instr.TheVariants.{Call}
use Rattle.sp_model.proofs.StateLemmas.{steps_keep_states}
use Rattle.sp_examples.specs.Units.{unit_of, caller, push as pushing}
use Rattle.sp_examples.proofs.PushLemmas.{pushed, popped, pushed_cells, pushes, pops, fetches_push, fetches_pop, low_byte, depth_law}

abbrev part_cells : List (ℕ × ℕ)
part_cells = bytes_of (pushing 2 []).code

abbrev cells : List (ℕ × ℕ)
cells = part_cells ++ (bytes_of (caller 0).code ++ [])

abbrev both : ℕ → Unit
both depth = unit_of (pushing 2 [] ∷ caller depth ∷ [])

-- after the LXI
abbrev one : State → State
one s = record s { core = record s.core { sp = 0x2400; pc = 0x113; halted = false } }

abbrev called_cells : State → List ℕ
called_cells s = slice_set (slice_set s.core.cells 0x23FF 1) 0x23FE 0x16

-- after the CALL
abbrev two : State → State
two s = record s { core = record s.core { sp = 0x23FE; pc = 0x100; halted = false; cells = called_cells s } }

-- after the PUSH of the routine that was called
abbrev three : State → State
three s = pushed (two s)

-- after its POP
abbrev four : State → State
four s = popped (two s)

-- after its RET
abbrev five : State → State
five s = record s { core = record s.core { sp = 0x2400; pc = 0x116; halted = false; cells = pushed_cells (two s).core } }

-- after the HLT
abbrev six : State → State
six s = record s { core = record s.core { sp = 0x2400; pc = 0x116; halted = true; cells = pushed_cells (two s).core } }

abbrev Has : State → Type 0
Has t = Loaded (maps.from_sorted cells) t

low : (a b : ℕ) → maps.get (maps.from_sorted {R = nat_cmp} cells) a ≡ Some b → a < 0x200
low = low_image 0x200 cells refl refl

part : (t : State) → Has t → Loaded (maps.from_sorted part_cells) t
part t loaded = loaded_part part_cells (bytes_of (caller 0).code ++ []) t refl refl loaded

-- ---- what is fetched, and the steps
fetches_lxi : (s : State) → Has (placed s 0x110) → next_instr (placed s 0x110).core ≡ Some (Lxi pair.Sp 0x2400, 3)
fetches_lxi s loaded = fetch cells (placed s 0x110) (Lxi pair.Sp 0x2400) refl loaded refl refl

step_one : (s : State) → Has (placed s 0x110) → step (placed s 0x110) ≡ one s
unfolding effect advance with_pc with_pair with_sp
step_one s loaded = step_quiet (placed s 0x110) (Lxi pair.Sp 0x2400) 3 refl (fetches_lxi s loaded) refl refl

fetches_call : (s : State) → Has (one s) → next_instr (one s).core ≡ Some (Call 0x100, 3)
fetches_call s loaded = fetch cells (one s) (Call 0x100) refl loaded refl refl

step_two : (s : State) → Has (one s) → step (one s) ≡ two s
unfolding effect call push with_pc with_sp with_cell
step_two s loaded = step_quiet (one s) (Call 0x100) 3 refl (fetches_call s loaded) refl refl

step_three : (s : State) → Has (two s) → step (two s) ≡ three s
step_three s loaded = pushes (two s) (part (two s) loaded)

step_four : (s : State) → IsState (two s) → Has (three s) → step (three s) ≡ four s
step_four s state loaded = pops (two s) state (lit≤ tt) (part (three s) loaded)

fetches_ret : (s : State) → Has (four s) → next_instr (four s).core ≡ Some (Ret, 1)
fetches_ret s loaded = fetch cells (four s) Ret refl loaded refl refl

-- the return address is still there
low_is : (s : State) → length s.core.cells ≡ 65536 → slice_index (pushed_cells (two s).core) 0x23FE ≡ 0x16
low_is s long =
    cell_apart (slice_set (called_cells s) 0x23FD s.core.b) 0x23FE 0x23FC s.core.c (λ h. omega arith)
    ∙ cell_apart (called_cells s) 0x23FE 0x23FD s.core.b (λ h. omega arith)
    ∙ get_or-set_same (slice_set s.core.cells 0x23FF 1) 0x23FE 0x16 0 (omega (arith, length-set s.core.cells 0x23FF 1, long))

high_is : (s : State) → length s.core.cells ≡ 65536 → slice_index (pushed_cells (two s).core) 0x23FF ≡ 1
high_is s long =
    cell_apart (slice_set (called_cells s) 0x23FD s.core.b) 0x23FF 0x23FC s.core.c (λ h. omega arith)
    ∙ cell_apart (called_cells s) 0x23FF 0x23FD s.core.b (λ h. omega arith)
    ∙ cell_apart (slice_set s.core.cells 0x23FF 1) 0x23FF 0x23FE 0x16 (λ h. omega arith)
    ∙ get_or-set_same s.core.cells 0x23FF 1 0 (omega (arith, long))

step_five : (s : State) → length s.core.cells ≡ 65536 → Has (four s) → step (four s) ≡ five s
unfolding ret with_sp with_pc
step_five s long loaded =
    step_ret (four s) refl (fetches_ret s loaded)
    ∙ ap (λ x. record (five s) { core = record (five s).core { pc = (x + 256 * slice_index (pushed_cells (two s).core) 0x23FF) % 65536 } }) (low_is s long)
    ∙ ap (λ x. record (five s) { core = record (five s).core { pc = (0x16 + 256 * x) % 65536 } }) (high_is s long)

fetches_hlt : (s : State) → Has (five s) → next_instr (five s).core ≡ Some (Hlt, 1)
fetches_hlt s loaded = fetch cells (five s) Hlt refl loaded refl refl

step_six : (s : State) → Has (five s) → step (five s) ≡ six s
unfolding effect with_halted
step_six s loaded = step_quiet (five s) Hlt 1 refl (fetches_hlt s loaded) refl refl

-- ---- what is loaded
abbrev half_two : State → State
half_two s = record s { core = record s.core { cells = slice_set s.core.cells 0x23FF 1 } }

abbrev half_three : State → State
half_three s = record s { core = record s.core { cells = slice_set (called_cells s) 0x23FD s.core.b } }

loaded_two : (s : State) → Has (placed s 0x110) → Has (two s)
loaded_two s loaded =
    loaded_written (maps.from_sorted cells) (half_two s) (two s) 0x23FE 0x16 low (lit≤ tt) refl
    (loaded_written (maps.from_sorted cells) (placed s 0x110) (half_two s) 0x23FF 1 low (lit≤ tt) refl loaded)

loaded_three : (s : State) → Has (placed s 0x110) → Has (three s)
loaded_three s loaded =
    loaded_written (maps.from_sorted cells) (half_three s) (three s) 0x23FC s.core.c low (lit≤ tt) refl
    (loaded_written (maps.from_sorted cells) (two s) (half_three s) 0x23FD s.core.b low (lit≤ tt) refl (loaded_two s loaded))

-- ---- the caller
silent : (depth : ℕ) → HasNoAsserts (caller depth).code
silent depth = (refl, (refl, (refl, tt)))

may : (depth : ℕ) (s : State) (w : ℕ) → 4 ≤ depth → 0x23FC ≤ w → w < 0x2400 → InAllotment (both depth) (caller depth) (placed s 0x110) w
may depth s w deep below above = (above, omega arith)

kept_two : (depth : ℕ) (s : State) → 4 ≤ depth → Keeps (both depth) (caller depth) (placed s 0x110) (two s)
kept_two depth s deep =
    let u : Unit = both depth in
    let r : Routine = caller depth in
    let t : State = placed s 0x110 in
    keeps_written u r t (half_two s) (two s) 0x23FE 0x16
    (keeps_written u r t t (half_two s) 0x23FF 1 (keeps_itself u r t) refl refl (inr (may depth s 0x23FF deep (lit≤ tt) (lit< tt))))
    refl refl (inr (may depth s 0x23FE deep (lit≤ tt) (lit< tt)))

kept_three : (depth : ℕ) (s : State) → 4 ≤ depth → Keeps (both depth) (caller depth) (placed s 0x110) (three s)
kept_three depth s deep =
    let u : Unit = both depth in
    let r : Routine = caller depth in
    let t : State = placed s 0x110 in
    keeps_written u r t (half_three s) (three s) 0x23FC s.core.c
    (keeps_written u r t (two s) (half_three s) 0x23FD s.core.b (kept_two depth s deep) refl refl (inr (may depth s 0x23FD deep (lit≤ tt) (lit< tt))))
    refl refl (inr (may depth s 0x23FC deep (lit≤ tt) (lit< tt)))

call_run : (depth : ℕ) (s : State) → 4 ≤ depth → IsEntry (both depth) (caller depth) (placed s 0x110) → IsGoodFrom (both depth) (caller depth) (placed s 0x110) (placed s 0x110)
call_run depth s deep entry =
    let u : Unit = both depth in
    let r : Routine = caller depth in
    let q : Routine = pushing 2 [] in
    let t : State = placed s 0x110 in
    let loaded : Has t = entry.loaded in
    let loaded_one : Has (one s) = loaded_still (maps.from_sorted cells) t (one s) refl loaded in
    let loaded_four : Has (four s) = loaded_still (maps.from_sorted cells) (three s) (four s) refl (loaded_three s loaded) in
    let loaded_five : Has (five s) = loaded_still (maps.from_sorted cells) (four s) (five s) refl loaded_four in
    let state_two : IsState (two s) = subst IsState (ap step (step_one s loaded) ∙ step_two s loaded_one) (steps_keep_states (step t) (steps_keep_states t entry.state)) in
    let kept : Keeps u r t (three s) = kept_three depth s deep in
    let kept_four : Keeps u r t (four s) = keeps_still u r t (three s) (four s) kept refl refl in
    let kept_five : Keeps u r t (five s) = keeps_still u r t (four s) (five s) kept_four refl refl in
    goes u r t t (one s)
    (good_step u r t t (Lxi pair.Sp 0x2400) 3 (fetches_lxi s loaded) (keeps_itself u r t) (r, (1, lit< tt, refl), (_, (0, lit< tt, refl), refl)) (unasserted u r t t (silent depth)) (λ port h. cc) refl)
    (step_one s loaded)
    (goes u r t (one s) (two s)
    (good_step u r t (one s) (Call 0x100) 3 (fetches_call s loaded_one) (keeps_still u r t t (one s) (keeps_itself u r t) refl refl) (r, (1, lit< tt, refl), (_, (1, lit< tt, refl), refl)) (unasserted u r t (one s) (silent depth)) (λ port h. cc) refl)
    (step_two s loaded_one)
    (goes u r t (two s) (three s)
    (good_step u r t (two s) (Push stack.B) 1 (fetches_push (two s) (part (two s) (loaded_two s loaded))) (kept_two depth s deep) (q, (0, lit< tt, refl), (_, (0, lit< tt, refl), refl)) (unasserted u r t (two s) (silent depth)) (λ port h. cc) refl)
    (step_three s (loaded_two s loaded))
    (goes u r t (three s) (four s)
    (good_step u r t (three s) (Pop stack.B) 1 (fetches_pop (two s) (part (three s) (loaded_three s loaded))) kept (q, (0, lit< tt, refl), (_, (1, lit< tt, refl), refl)) (unasserted u r t (three s) (silent depth)) (λ port h. cc) refl)
    (step_four s state_two (loaded_three s loaded))
    (goes u r t (four s) (five s)
    (good_away u r t (four s) Ret 1 (fetches_ret s loaded_four) kept_four (q, (0, lit< tt, refl), (_, (2, lit< tt, refl), refl)) (unasserted u r t (four s) (silent depth)) refl not_top)
    (step_five s entry.state.core.memory loaded_four)
    (goes u r t (five s) (six s)
    (good_step u r t (five s) Hlt 1 (fetches_hlt s loaded_five) kept_five (r, (1, lit< tt, refl), (_, (2, lit< tt, refl), refl)) (unasserted u r t (five s) (silent depth)) (λ port h. cc) refl)
    (step_six s loaded_five)
    (halts u r t (six s)
    (good_step u r t (six s) Hlt 1 (fetches_hlt s loaded_five) (keeps_still u r t (five s) (six s) kept_five refl refl) (r, (1, lit< tt, refl), (_, (2, lit< tt, refl), refl)) (unasserted u r t (six s) (silent depth)) (λ port h. cc) refl)
    refl))))))
  where
    not_top : ◌≡◌ {A = ℕ} 0x23FE 0x2400 → ⊥
    not_top h = omega arith

pub caller_entry : (depth : ℕ) → IsEntry (both depth) (caller depth) (ready cells 0x110 0)
caller_entry depth = record {
  state = ready_state cells 0x110 0 refl (lit< tt) (lit< tt);
  loaded = ready_loaded cells 0x110 0 refl refl;
  begins = refl;
  running = refl;
  pre = All-nil (Says (both depth) (caller depth) (ready cells 0x110 0) (ready cells 0x110 0));
  room = λ h. cc;
}

-- the first three steps from the given entry
first_three : (depth k : ℕ) → k < 3 → ¬ IsReturnStep (both depth) (caller depth) (ready cells 0x110 0) (run (ready cells 0x110 0) k)
first_three depth zero less = not_return (both depth) (caller depth) (ready cells 0x110 0) (ready cells 0x110 0) (Lxi pair.Sp 0x2400) 3 (fetches_lxi (ready cells 0x110 0) (caller_entry depth).loaded) refl
first_three depth (suc zero) less = λ h.
    let s : State = ready cells 0x110 0 in
    let loaded = (caller_entry depth).loaded in
    not_return (both depth) (caller depth) s (one s) (Call 0x100) 3 (fetches_call s (loaded_still (maps.from_sorted cells) s (one s) refl loaded)) refl
    (subst (IsReturnStep (both depth) (caller depth) s) (step_one s loaded) h)
first_three depth (suc (suc zero)) less = λ h.
    let s : State = ready cells 0x110 0 in
    let loaded = (caller_entry depth).loaded in
    not_return (both depth) (caller depth) s (two s) (Push stack.B) 1 (fetches_push (two s) (part (two s) (loaded_two s loaded))) refl
    (subst (IsReturnStep (both depth) (caller depth) s) (ap step (step_one s loaded) ∙ step_two s (loaded_still (maps.from_sorted cells) s (one s) refl loaded)) h)
first_three depth (suc (suc (suc k))) less = absurd (omega arith)

pub call_law : (depth : ℕ) → AllRunsAreGood (unit_of (pushing 2 [] ∷ caller depth ∷ [])) ↔ (4 ≤ depth)
call_law depth = (
  λ good. elim (cases_lt depth 4) [
    | inl short ↦
        let s : State = ready cells 0x110 0 in
        let loaded : Has s = (caller_entry depth).loaded in
        let loaded_one : Has (one s) = loaded_still (maps.from_sorted cells) s (one s) refl loaded in
        let at_three : run s 3 ≡ three s = ap step (ap step (step_one s loaded) ∙ step_two s loaded_one) ∙ step_three s (loaded_two s loaded) in
        let after = subst (IsGoodAt (both depth) (caller depth) s) at_three (good (caller depth) (1, lit< tt, refl) s (caller_entry depth) 3 3 (lit≤ tt) (λ k less. first_three depth k less)) in
        let kept : cell 0x23FC (three s).core ≡ cell 0x23FC s.core = after.keeps.memory 0x23FC (lit< tt) (λ area h. λ inside. omega (arith, h.1)) (λ inside. omega (arith, inside.1)) in
        let new : cell 0x23FC (three s).core ≡ 2 = low_byte (two s) (length-set (slice_set (memory_of cells) 0x23FF 1) 0x23FE 0x16 ∙ length-set (memory_of cells) 0x23FF 1 ∙ memory_long cells) (lit≤ tt) (lit< tt) in
        let old : cell 0x23FC s.core ≡ 0 = memory_at cells 0x23FC (lit< tt) in
        absurd (omega (arith, kept, new, old))
    | inr deep ↦ deep
  ],
  λ deep. two_of (λ q. (s : State) → IsEntry (both depth) q s → (n : ℕ) → IsGood (both depth) q s n) (pushing 2 []) (caller depth)
      (wider (pushing 2 [] ∷ caller depth ∷ []) (pushing 2 []) (0, lit< tt, refl) (λ t loaded. part t loaded) ((depth_law 2).1 (lit≤ tt)))
      (λ s entry n.
      let is : s ≡ placed s 0x110 = placed_is s 0x110 entry.begins entry.running in
      subst (λ t. IsGood (both depth) (caller depth) t n) (sym is) (good_of (both depth) (caller depth) (placed s 0x110) (call_run depth s deep (subst (IsEntry (both depth) (caller depth)) is entry)) n)),
)
