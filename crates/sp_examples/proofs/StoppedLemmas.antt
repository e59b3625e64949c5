-- Halted and stuck states, and steps at ports.
use Rattle.std.proofs.Common.{◌≡◌, ℕ, ◌<◌, true, false, List, [], ◌∷◌, ◌++◌, refl, ap, subst, ◌∙◌, arith, Some, None, lit<, append-nil}
use Rattle.std.specs.Prelude.{Contains, drop, unwrap_or, ◌↔◌, IsSome, slice_get}
use Rattle.std.proofs.lemmas.List.Elements.{All-nil, All-cons}
use Rattle.sp_base.specs.declared.location.Loc.{Loc}
use Rattle.sp_base.specs.declared.location.Loc.TheVariants as loc
use Rattle.sp_isa.specs.declared.instr.Instr.TheVariants.{In, Out, Nop}
use Rattle.sp_isa.specs.Core.{at, limit, cell, with_reg, with_pc, advance}
use Rattle.sp_isa.specs.Effect.{effect, takes_input, gives_output}
use Rattle.sp_model.specs.State.{State, IsState, next_instr, next_input, executed, step}
use Rattle.sp_model.specs.Unit.{Routine, Unit}
use Rattle.sp_model.specs.Good.{IsGoodAt}
use Rattle.sp_examples.specs.Units.{alone, bytes_of}
use Rattle.sp_examples.specs.States.{ready}
use Rattle.sp_examples.proofs.RunLemmas.{step_is, step_quiet}
use Rattle.sp_examples.proofs.KeepsLemmas.{keeps_itself, keeps_still}
use Rattle.sp_examples.proofs.EntryLemmas.{fetch, memory_at, ready_state, ready_loaded}
use Rattle.sp_examples.proofs.GoodLemmas.{unasserted}
use Rattle.sp_isa.specs.declared.instr.Instr.{Instr}
use Rattle.sp_isa.specs.Decode.{decode, form}
use Rattle.sp_examples.specs.Units.{given, only}
use Rattle.sp_examples.specs.States.{stopped}

abbrev cells : Instr → List (ℕ × ℕ)
cells i = bytes_of (only i).code

-- ---- a halted state is good whatever stands at its PC
pub halted_good : (i : Instr) (memory : List (ℕ × ℕ)) → IsGoodAt (alone (only i)) (only i) (ready memory 0x100 0x2380) (stopped (ready memory 0x100 0x2380))
halted_good i memory =
    let u : Unit = alone (only i) in
    let r : Routine = only i in
    let s : State = ready memory 0x100 0x2380 in
    record {
      keeps = keeps_still u r s s (stopped s) (keeps_itself u r s) refl refl;
      in_code = (r, (0, lit< tt, refl), (_, (0, lit< tt, refl), refl));
      not_stuck = λ running. cc;
      asserts = unasserted u r s (stopped s) (refl, tt);
      inputs = λ running. absurd (not_running running);
      returned = λ h. absurd (not_running h.running);
    }
  where
    not_running : true ≡ false → ⊥
    not_running h = cc

fetches_in : next_instr (given (In 5)).core ≡ Some (In 5, 2)
fetches_in = fetch (cells (In 5)) (given (In 5)) (In 5) refl (ready_loaded (cells (In 5)) 0x100 0x2380 refl refl) refl refl

pub input_bad : ¬ IsGoodAt (alone (only (In 5))) (only (In 5)) (ready (bytes_of (only (In 5)).code) 0x100 0x2380) (ready (bytes_of (only (In 5)).code) 0x100 0x2380)
input_bad good =
    let listed : Contains [] 5 = good.inputs refl (In 5, 2) fetches_in 5 refl in
    omega (arith, listed.1)

-- memory with 08H at 100H, which begins no instruction
abbrev stuck_state : State
stuck_state = ready ((0x100, 8) ∷ []) 0x100 0x2380

nothing_begins : next_instr stuck_state.core ≡ None
unfolding decode form
nothing_begins = ap (λ b. decode b (cell 0x101 stuck_state.core) (cell 0x102 stuck_state.core)) (memory_at ((0x100, 8) ∷ []) 0x100 (lit< tt))

none_some : IsSome {T = Instr × ℕ} None → ⊥
none_some h = cc

pub stuck_bad : ¬ IsGoodAt (alone (only Nop)) (only Nop) (ready ((0x100, 8) ∷ []) 0x100 0x2380) (ready ((0x100, 8) ∷ []) 0x100 0x2380)
stuck_bad good = none_some (subst IsSome nothing_begins (good.not_stuck refl))

-- ---- steps at ports
pub step_in : (s : State) (port n x : ℕ) (rest : List ℕ) → s.core.halted ≡ false → next_instr s.core ≡ Some (In port, n) → s.inputs ≡ x ∷ rest → ((step s).core.a ≡ x) × ((step s).inputs ≡ rest) × ((step s).outputs ≡ s.outputs)
unfolding effect advance with_pc with_reg
step_in s port n x rest running is inputs =
    let done : step s ≡ executed (In port) s = step_is s (In port) n running is in (
      ap (λ (t : State). t.core.a) done ∙ ap (λ xs. unwrap_or (slice_get xs 0) 255) inputs,
      ap (λ (t : State). t.inputs) done ∙ ap (drop 1) inputs,
      ap (λ (t : State). t.outputs) done ∙ append-nil s.outputs,
    )

pub step_in_past : (s : State) (port n : ℕ) → s.core.halted ≡ false → next_instr s.core ≡ Some (In port, n) → s.inputs ≡ [] → ((step s).core.a ≡ 255) × ((step s).inputs ≡ []) × ((step s).outputs ≡ s.outputs)
unfolding effect advance with_pc with_reg
step_in_past s port n running is inputs =
    let done : step s ≡ executed (In port) s = step_is s (In port) n running is in (
      ap (λ (t : State). t.core.a) done ∙ ap (λ xs. unwrap_or (slice_get xs 0) 255) inputs,
      ap (λ (t : State). t.inputs) done ∙ ap (drop 1) inputs,
      ap (λ (t : State). t.outputs) done ∙ append-nil s.outputs,
    )

pub step_out : (s : State) (port n : ℕ) → s.core.halted ≡ false → next_instr s.core ≡ Some (Out port, n) → ((step s).inputs ≡ s.inputs) × ((step s).outputs ≡ s.outputs ++ (port, s.core.a) ∷ [])
step_out s port n running is =
    let done : step s ≡ executed (Out port) s = step_is s (Out port) n running is in
    (ap (λ (t : State). t.inputs) done, ap (λ (t : State). t.outputs) done)

pub step_else : (s : State) (i : Instr) (n : ℕ) → s.core.halted ≡ false → next_instr s.core ≡ Some (i, n) → takes_input i ≡ None → gives_output i s.core ≡ None → ((step s).inputs ≡ s.inputs) × ((step s).outputs ≡ s.outputs)
step_else s i n running is takes gives =
    let done : step s ≡ record s { core = effect (next_input s) i s.core } = step_quiet s i n running is takes gives in
    (ap (λ (t : State). t.inputs) done, ap (λ (t : State). t.outputs) done)

-- ---- states
pub inputs_law : (byte : ℕ) → IsState (record (given Nop) { inputs = byte ∷ [] }) ↔ (byte < 256)
inputs_law byte =
    let s : IsState (given Nop) = ready_state (cells Nop) 0x100 0x2380 refl (lit< tt) (lit< tt) in (
      λ h. h.inputs 0 0 (lit< tt),
      λ low. record { core = s.core; inputs = All-cons (λ byte. byte < 256) byte [] low (All-nil (λ byte. byte < 256)); outputs = s.outputs },
    )

pub outputs_law : (port byte : ℕ) → IsState (record (given Nop) { outputs = (port, byte) ∷ [] }) ↔ ((port < 256) × (byte < 256))
outputs_law port byte =
    let s : IsState (given Nop) = ready_state (cells Nop) 0x100 0x2380 refl (lit< tt) (lit< tt) in (
      λ h. h.outputs 0 (0, 0) (lit< tt),
      λ low. record { core = s.core; inputs = s.inputs; outputs = All-cons (λ o. (o.0 < 256) × (o.1 < 256)) (port, byte) [] low (All-nil (λ o. (o.0 < 256) × (o.1 < 256))) },
    )

pub register_law : (a : ℕ) → IsState (record (given Nop) { core = record (given Nop).core { a = a } }) ↔ (a < 256)
register_law a =
    let s : IsState (given Nop) = ready_state (cells Nop) 0x100 0x2380 refl (lit< tt) (lit< tt) in (
      λ h. h.core.locations loc.A,
      λ low. record { core = record { locations = λ x. at_a x s low; sp = s.core.sp; pc = s.core.pc; memory = s.core.memory; bytes = s.core.bytes }; inputs = s.inputs; outputs = s.outputs },
    )
  where
    at_a : (x : Loc) → IsState (given Nop) → a < 256 → at x (record (given Nop).core { a = a }) < limit x
    at_a loc.A s low = low
    at_a x s low = s.core.locations x
