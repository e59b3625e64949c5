-- OUT 5 and IN 5, each with a RET.
use Rattle.std.proofs.Common.{◌≡◌, ℕ, false, List, [], ◌∷◌, ◌++◌, refl, sym, ap, subst, ◌∙◌, arith, Some, lit<, append-nil}
use Rattle.std.specs.Prelude.{All, Contains, drop, ◌↔◌}
use Rattle.std.proofs.lemmas.List.Elements.{All-nil}
use Rattle.std.specs.FinMap as maps
use Rattle.sp_base.specs.declared.location.Loc.{Loc}
use Rattle.sp_base.specs.declared.location.Loc.TheVariants as loc
use Rattle.sp_isa.specs.declared.instr.Instr.TheVariants.{Ret, In, Out}
use Rattle.sp_isa.specs.Core.{Core, at, with_reg, with_pc, advance}
use Rattle.sp_isa.specs.Effect.{effect}
use Rattle.sp_model.specs.State.{State, next_instr, next_input, step}
use Rattle.sp_model.specs.Unit.{Routine, Unit}
use Rattle.sp_model.specs.Good.{Keeps, Loaded, IsEntry, AllRunsAreGood}
use Rattle.sp_examples.specs.Units.{alone, send, take, bytes_of}
use Rattle.sp_examples.specs.States.{ready}
use Rattle.sp_examples.proofs.RunLemmas.{step_is, IsGoodFrom, goes}
use Rattle.sp_examples.proofs.KeepsLemmas.{keeps_itself, keeps_still, keeps_sent}
use Rattle.sp_examples.proofs.EntryLemmas.{fetch, placed, ready_state, ready_loaded}
use Rattle.sp_examples.proofs.GoodLemmas.{same_some, Says, good_step, not_return, back, unasserted}
use Rattle.sp_examples.proofs.AloneLemmas.{all_alone, after_one, at_entry, finish, at_moved, loaded_still}

-- ---- OUT 5
abbrev out_cells : List (ℕ × ℕ)
out_cells = bytes_of (send [] []).code

-- the state after the OUT
abbrev sent : State → State
sent s = record s { core = record s.core { pc = 0x102; halted = false }; outputs = s.outputs ++ (5, s.core.a) ∷ [] }

fetches_out : (s : State) → Loaded (maps.from_sorted out_cells) (placed s 0x100) → next_instr (placed s 0x100).core ≡ Some (Out 5, 2)
fetches_out s loaded = fetch out_cells (placed s 0x100) (Out 5) refl loaded refl refl

sends : (s : State) → Loaded (maps.from_sorted out_cells) (placed s 0x100) → step (placed s 0x100) ≡ sent s
unfolding effect advance with_pc
sends s loaded = step_is (placed s 0x100) (Out 5) 2 refl (fetches_out s loaded)

good_sent : (ins outs : List ℕ) (s : State) → Contains outs 5 → IsEntry (alone (send ins outs)) (send ins outs) (placed s 0x100) → IsGoodFrom (alone (send ins outs)) (send ins outs) (placed s 0x100) (placed s 0x100)
good_sent ins outs s listed entry =
    let u : Unit = alone (send ins outs) in
    let r : Routine = send ins outs in
    let t : State = placed s 0x100 in
    let v : State = sent s in
    let room = entry.room refl in
    let kept : Keeps u r t v = keeps_sent u r t t v (5, s.core.a) (keeps_itself u r t) refl refl listed in
    let loaded : Loaded u.image v = loaded_still u.image t v refl entry.loaded in
    goes u r t t v
    (good_step u r t t (Out 5) 2 (fetches_out s entry.loaded) (keeps_itself u r t)
    (r, (0, lit< tt, refl), (_, (0, lit< tt, refl), refl)) (unasserted u r t t (refl, (refl, tt))) (λ port h. cc) refl)
    (sends s entry.loaded)
    (finish u r t v refl (fetch out_cells v Ret refl loaded refl refl) entry.state kept
    (r, (0, lit< tt, refl), (_, (1, lit< tt, refl), refl)) (unasserted u r t v (refl, (refl, tt)))
    refl (omega (arith, room.above)) refl (All-nil (Says u r t (back v)))
    (λ x out. at_moved x s.core s.core.sp 0x102 false s.core.cells ∙ sym (at_moved x s.core s.core.sp 0x100 false s.core.cells)))

pub send_entry : (ins outs : List ℕ) → IsEntry (alone (send ins outs)) (send ins outs) (ready out_cells 0x100 0x2380)
send_entry ins outs = record {
  state = ready_state out_cells 0x100 0x2380 refl (lit< tt) (lit< tt);
  loaded = ready_loaded out_cells 0x100 0x2380 refl refl;
  begins = refl;
  running = refl;
  pre = All-nil (Says (alone (send ins outs)) (send ins outs) (ready out_cells 0x100 0x2380) (ready out_cells 0x100 0x2380));
  room = λ h. record { below = omega arith; above = omega arith };
}

pub send_law : (ins outs : List ℕ) → AllRunsAreGood (alone (send ins outs)) ↔ Contains outs 5
send_law ins outs = (
  λ good.
      let s : State = ready out_cells 0x100 0x2380 in
      let r : Routine = send ins outs in
      let entry : IsEntry (alone r) r s = send_entry ins outs in
      let after = after_one r s (sent s) good entry (not_return (alone r) r s s (Out 5) 2 (fetches_out s entry.loaded) refl) (sends s entry.loaded) in
      subst (All (λ o. Contains outs o.0)) (sym after.keeps.outputs.1) after.keeps.outputs.2 0 (0, 0) (lit< tt),
  λ listed. all_alone (send ins outs) (λ s entry. good_sent ins outs s listed entry),
)

-- ---- IN 5
abbrev in_cells : List (ℕ × ℕ)
in_cells = bytes_of (take [] []).code

-- the state after the IN
abbrev taken : State → State
taken s = record s { core = record s.core { a = next_input s; pc = 0x102; halted = false }; inputs = drop 1 s.inputs }

fetches_in : (s : State) → Loaded (maps.from_sorted in_cells) (placed s 0x100) → next_instr (placed s 0x100).core ≡ Some (In 5, 2)
fetches_in s loaded = fetch in_cells (placed s 0x100) (In 5) refl loaded refl refl

takes : (s : State) → Loaded (maps.from_sorted in_cells) (placed s 0x100) → step (placed s 0x100) ≡ taken s
unfolding effect advance with_pc with_reg
takes s loaded =
    step_is (placed s 0x100) (In 5) 2 refl (fetches_in s loaded)
    ∙ ap (λ outputs. record (taken s) { outputs = outputs }) (append-nil s.outputs)

pub at_other : (x : Loc) (core : Core) (v pc : ℕ) → (x ≡ loc.A → ⊥) → at x (record core { a = v; pc = pc; halted = false }) ≡ at x core
at_other loc.A core v pc other = absurd (other refl)
at_other x core v pc other = refl

pub take_entry : (ins outs : List ℕ) → IsEntry (alone (take ins outs)) (take ins outs) (ready in_cells 0x100 0x2380)
take_entry ins outs = record {
  state = ready_state in_cells 0x100 0x2380 refl (lit< tt) (lit< tt);
  loaded = ready_loaded in_cells 0x100 0x2380 refl refl;
  begins = refl;
  running = refl;
  pre = All-nil (Says (alone (take ins outs)) (take ins outs) (ready in_cells 0x100 0x2380) (ready in_cells 0x100 0x2380));
  room = λ h. record { below = omega arith; above = omega arith };
}

good_taken : (ins outs : List ℕ) (s : State) → Contains ins 5 → IsEntry (alone (take ins outs)) (take ins outs) (placed s 0x100) → IsGoodFrom (alone (take ins outs)) (take ins outs) (placed s 0x100) (placed s 0x100)
good_taken ins outs s listed entry =
    let u : Unit = alone (take ins outs) in
    let r : Routine = take ins outs in
    let t : State = placed s 0x100 in
    let v : State = taken s in
    let room = entry.room refl in
    let kept : Keeps u r t v = keeps_still u r t t v (keeps_itself u r t) refl refl in
    let loaded : Loaded u.image v = loaded_still u.image t v refl entry.loaded in
    goes u r t t v
    (good_step u r t t (In 5) 2 (fetches_in s entry.loaded) (keeps_itself u r t)
    (r, (0, lit< tt, refl), (_, (0, lit< tt, refl), refl)) (unasserted u r t t (refl, (refl, tt)))
    (λ port h. subst (Contains ins) (same_some 5 port h) listed) refl)
    (takes s entry.loaded)
    (finish u r t v refl (fetch in_cells v Ret refl loaded refl refl) entry.state kept
    (r, (0, lit< tt, refl), (_, (1, lit< tt, refl), refl)) (unasserted u r t v (refl, (refl, tt)))
    refl (omega (arith, room.above)) refl (All-nil (Says u r t (back v)))
    (λ x out. at_other x s.core (next_input s) 0x102 (λ is. out (0, lit< tt, sym is)) ∙ sym (at_moved x s.core s.core.sp 0x100 false s.core.cells)))

pub take_law : (ins outs : List ℕ) → AllRunsAreGood (alone (take ins outs)) ↔ Contains ins 5
take_law ins outs = (
  λ good.
      let s : State = ready in_cells 0x100 0x2380 in
      let r : Routine = take ins outs in
      let entry : IsEntry (alone r) r s = take_entry ins outs in
      (at_entry r s good entry).inputs refl (In 5, 2) (fetches_in s entry.loaded) 5 refl,
  λ listed. all_alone (take ins outs) (λ s entry. good_taken ins outs s listed entry),
)
