-- MVI A,5 and RET.
use Rattle.std.proofs.Common.{◌≡◌, ℕ, zero, suc, false, List, [], ◌∷◌, refl, sym, ap, subst, ◌∙◌, arith, Some, ◌⊎◌, inl, inr, lit<, pos}
use Rattle.std.specs.Prelude.{All, Contains, ◌↔◌}
use Rattle.std.proofs.lemmas.List.Elements.{All-nil, All-cons}
use Rattle.std.specs.FinMap as maps
use Rattle.sp_base.specs.declared.location.Loc.{Loc}
use Rattle.sp_base.specs.declared.location.Loc.TheVariants as loc
use Rattle.sp_base.specs.declared.location.Reg.TheVariants as reg
use Rattle.sp_isa.specs.declared.instr.Arg.TheVariants as arg
use Rattle.sp_isa.specs.declared.instr.Instr.TheVariants.{Ret, Mvi}
use Rattle.sp_isa.specs.Core.{with_reg, with_pc, advance}
use Rattle.sp_isa.specs.Operands.{with_arg}
use Rattle.sp_isa.specs.Effect.{effect}
use Rattle.sp_model.specs.Note.{Note}
use Rattle.sp_model.specs.State.{State, next_instr, step}
use Rattle.sp_model.specs.Unit.{Stmt, Routine, Unit}
use Rattle.sp_model.specs.Good.{Keeps, Loaded, IsEntry, IsGoodAt, HasReturned, AllRunsAreGood}
use Rattle.sp_examples.specs.Units.{alone, load, bytes_of}
use Rattle.sp_examples.specs.States.{ready}
use Rattle.sp_examples.proofs.RunLemmas.{step_quiet, IsGoodFrom, goes}
use Rattle.sp_examples.proofs.KeepsLemmas.{keeps_itself, keeps_still}
use Rattle.sp_examples.proofs.EntryLemmas.{fetch, placed, ready_state, ready_loaded}
use Rattle.sp_examples.proofs.GoodLemmas.{Says, AssertsHold, good_step, not_return, return_step, step_ret, back}
use Rattle.sp_examples.proofs.AloneLemmas.{all_alone, after_one, finish, at_moved, at_back, found, loaded_still}
use Rattle.sp_examples.specs.Units.{a_is}
use Rattle.sp_examples.proofs.PortLemmas.{at_other}

abbrev cells : List (ℕ × ℕ)
cells = bytes_of (load [] [] [] []).code

-- the state after the MVI
abbrev five : State → State
five s = record s { core = record s.core { a = 5; pc = 0x102; halted = false } }

fetches : (s : State) → Loaded (maps.from_sorted cells) (placed s 0x100) → next_instr (placed s 0x100).core ≡ Some (Mvi (arg.Reg reg.A) 5, 2)
fetches s loaded = fetch cells (placed s 0x100) (Mvi (arg.Reg reg.A) 5) refl loaded refl refl

steps : (s : State) → Loaded (maps.from_sorted cells) (placed s 0x100) → step (placed s 0x100) ≡ five s
unfolding effect advance with_pc with_arg with_reg
steps s loaded = step_quiet (placed s 0x100) (Mvi (arg.Reg reg.A) 5) 2 refl (fetches s loaded) refl refl

asserted_first : (reads locs : List Loc) (post asserts : List Note) (s t : State) → t.core.pc ≡ 0x100 → AssertsHold (alone (load reads locs post asserts)) (load reads locs post asserts) s t
asserted_first reads locs post asserts s t here i (zero, less, is) there = subst (λ (i : Stmt). All (Says (alone (load reads locs post asserts)) (load reads locs post asserts) s t) i.asserts) is (All-nil _)
asserted_first reads locs post asserts s t here i (suc zero, less, is) there = absurd (apart (ap (λ (i : Stmt). i.address) is ∙ there ∙ here))
  where
    apart : ◌≡◌ {A = ℕ} 0x102 0x100 → ⊥
    apart h = omega arith
asserted_first reads locs post asserts s t here i (suc (suc k), less, is) there = absurd (omega arith)

asserted_last : (reads locs : List Loc) (post asserts : List Note) (s t : State) → All (Says (alone (load reads locs post asserts)) (load reads locs post asserts) s t) asserts → AssertsHold (alone (load reads locs post asserts)) (load reads locs post asserts) s t
asserted_last reads locs post asserts s t h i (zero, less, is) there = subst (λ (i : Stmt). All (Says (alone (load reads locs post asserts)) (load reads locs post asserts) s t) i.asserts) is (All-nil _)
asserted_last reads locs post asserts s t h i (suc zero, less, is) there = subst (λ (i : Stmt). All (Says (alone (load reads locs post asserts)) (load reads locs post asserts) s t) i.asserts) is h
asserted_last reads locs post asserts s t h i (suc (suc k), less, is) there = absurd (omega arith)

good_run : (reads locs : List Loc) (post asserts : List Note) (s : State) → Contains locs loc.A
    → All (Says (alone (load reads locs post asserts)) (load reads locs post asserts) (placed s 0x100) (five s)) asserts
    → All (Says (alone (load reads locs post asserts)) (load reads locs post asserts) (placed s 0x100) (back (five s))) post
    → IsEntry (alone (load reads locs post asserts)) (load reads locs post asserts) (placed s 0x100)
    → IsGoodFrom (alone (load reads locs post asserts)) (load reads locs post asserts) (placed s 0x100) (placed s 0x100)
good_run reads locs post asserts s listed asserted posted entry =
    let u : Unit = alone (load reads locs post asserts) in
    let r : Routine = load reads locs post asserts in
    let t : State = placed s 0x100 in
    let v : State = five s in
    let room = entry.room refl in
    let kept : Keeps u r t v = keeps_still u r t t v (keeps_itself u r t) refl refl in
    let loaded : Loaded u.image v = loaded_still u.image t v refl entry.loaded in
    goes u r t t v
    (good_step u r t t (Mvi (arg.Reg reg.A) 5) 2 (fetches s entry.loaded) (keeps_itself u r t)
    (r, (0, lit< tt, refl), (_, (0, lit< tt, refl), refl)) (asserted_first reads locs post asserts t t refl) (λ port h. cc) refl)
    (steps s entry.loaded)
    (finish u r t v refl (fetch cells v Ret refl loaded refl refl) entry.state kept
    (r, (0, lit< tt, refl), (_, (1, lit< tt, refl), refl)) (asserted_last reads locs post asserts t v asserted)
    refl (omega (arith, room.above)) refl posted
    (λ x out. at_other x s.core 5 0x102 (λ is. out (subst (Contains locs) (sym is) listed)) ∙ sym (at_moved x s.core s.core.sp 0x100 false s.core.cells)))

pub entry : (reads locs : List Loc) (post asserts : List Note) → IsEntry (alone (load reads locs post asserts)) (load reads locs post asserts) (ready cells 0x100 0x2380)
entry reads locs post asserts = record {
  state = ready_state cells 0x100 0x2380 refl (lit< tt) (lit< tt);
  loaded = ready_loaded cells 0x100 0x2380 refl refl;
  begins = refl;
  running = refl;
  pre = All-nil (Says (alone (load reads locs post asserts)) (load reads locs post asserts) (ready cells 0x100 0x2380) (ready cells 0x100 0x2380));
  room = λ h. record { below = omega arith; above = omega arith };
}

-- the state at the RET of a good program
at_ret : (reads locs : List Loc) (post asserts : List Note) → AllRunsAreGood (alone (load reads locs post asserts)) → IsGoodAt (alone (load reads locs post asserts)) (load reads locs post asserts) (ready cells 0x100 0x2380) (five (ready cells 0x100 0x2380))
at_ret reads locs post asserts good =
    let s : State = ready cells 0x100 0x2380 in
    let r : Routine = load reads locs post asserts in
    let enters : IsEntry (alone r) r s = entry reads locs post asserts in
    after_one r s (five s) good enters (not_return (alone r) r s s (Mvi (arg.Reg reg.A) 5) 2 (fetches s enters.loaded) refl) (steps s enters.loaded)

loaded_five : Loaded (maps.from_sorted cells) (five (ready cells 0x100 0x2380))
loaded_five = loaded_still (maps.from_sorted cells) (ready cells 0x100 0x2380) (five (ready cells 0x100 0x2380)) refl (ready_loaded cells 0x100 0x2380 refl refl)

returned : (reads locs : List Loc) (post asserts : List Note) → AllRunsAreGood (alone (load reads locs post asserts)) → HasReturned (alone (load reads locs post asserts)) (load reads locs post asserts) (ready cells 0x100 0x2380) (back (five (ready cells 0x100 0x2380)))
returned reads locs post asserts good =
    let s : State = ready cells 0x100 0x2380 in
    let r : Routine = load reads locs post asserts in
    let v : State = five s in
    subst (HasReturned (alone r) r s) (step_ret v refl (fetch cells v Ret refl loaded_five refl refl))
    ((at_ret reads locs post asserts good).returned (return_step (alone r) r s v refl (fetch cells v Ret refl loaded_five refl refl) refl))

is_a : (x : Loc) → (x ≡ loc.A) ⊎ (x ≡ loc.A → ⊥)
is_a loc.A = inl refl
is_a x = inr (λ h. cc)

pub load_law : (reads locs : List Loc) → AllRunsAreGood (alone (load reads locs [] [])) ↔ Contains locs loc.A
load_law reads locs = (
  λ good. elim (found (λ x. x ≡ loc.A) is_a locs) [
    | inl h ↦ subst (Contains locs) h.2 h.1
    | inr none ↦ absurd (five_seven (sym (at_back loc.A (five (ready cells 0x100 0x2380))) ∙ (returned reads locs [] [] good).unlisted loc.A (λ h. none loc.A h refl)))
  ],
  λ listed. all_alone (load reads locs [] []) (λ s entry. good_run reads locs [] [] s listed (All-nil _) (All-nil _) entry),
)
  where
    five_seven : ◌≡◌ {A = ℕ} 5 7 → ⊥
    five_seven h = omega arith

same_pos : (m n : ℕ) → pos m ≡ pos n → m ≡ n
same_pos m n h = cc

pub promise_law : (n : ℕ) → AllRunsAreGood (alone (load [] (loc.A ∷ []) (a_is n ∷ []) [])) ↔ (n ≡ 5)
promise_law n = (
  λ good. sym (same_pos 5 n (ap pos (sym (at_back loc.A (five (ready cells 0x100 0x2380)))) ∙ (returned [] (loc.A ∷ []) (a_is n ∷ []) [] good).post 0 (a_is n) (lit< tt))),
  λ is. all_alone (load [] (loc.A ∷ []) (a_is n ∷ []) []) (λ s entry. good_run [] (loc.A ∷ []) (a_is n ∷ []) [] s (0, lit< tt, refl) (All-nil _)
      (All-cons (Says (alone (load [] (loc.A ∷ []) (a_is n ∷ []) [])) (load [] (loc.A ∷ []) (a_is n ∷ []) []) (placed s 256) (back (five s))) (a_is n) [] (ap pos (at_back loc.A (five s) ∙ sym is)) (All-nil _)) entry),
)

pub assert_law : (n : ℕ) → AllRunsAreGood (alone (load [] (loc.A ∷ []) [] (a_is n ∷ []))) ↔ (n ≡ 5)
assert_law n = (
  λ good. sym (same_pos 5 n ((at_ret [] (loc.A ∷ []) [] (a_is n ∷ []) good).asserts _ (1, lit< tt, refl) refl 0 (a_is n) (lit< tt))),
  λ is. all_alone (load [] (loc.A ∷ []) [] (a_is n ∷ [])) (λ s entry. good_run [] (loc.A ∷ []) [] (a_is n ∷ []) s (0, lit< tt, refl)
      (All-cons (Says (alone (load [] (loc.A ∷ []) [] (a_is n ∷ []))) (load [] (loc.A ∷ []) [] (a_is n ∷ [])) (placed s 256) (five s)) (a_is n) [] (ap pos (sym is)) (All-nil _)) (All-nil _) entry),
)
