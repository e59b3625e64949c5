-- Runs of the machine and runs of the state.
use Rattle.std.proofs.Common.{◌≡◌, ◌∙◌, sym, ap, ap₂, subst, refl, inl, inr, ℕ, ◌+◌, ◌<◌, ◌≤◌, arith, add-one, below_more, true, false, true≢false, List, [], ◌++◌, Option, Some, None}
use Rattle.std.specs.Prelude.{slice_get, unwrap_or, if◌then◌else◌}
use Rattle.std.proofs.lemmas.Grind.{flat_map-append}
use Rattle.sp_isa.specs.declared.instr.Instr.{Instr}
use Rattle.sp_isa.specs.Core.{Core}
use Rattle.sp_isa.specs.Step as core
use Rattle.sp_machine.specs.Event.{event}
use Rattle.sp_machine.specs.Ports.{is_stuck, inputs_after, outputs_of}
use Rattle.sp_machine.proofs.PortLemmas.{answer, answer_not_stuck, told, step_told}
use Rattle.sp_model.specs.State.{State, next_instr, next_input, step, run}
use Rattle.sp_run.specs.Texts.{output_line, output_lines}
use Rattle.sp_run.specs.Run.{HasStopped, EndsAfter}

-- a core that isn't halted, and doesn't answer that it is stuck, has not stopped
pub goes_on : (k : Core) → k.halted ≡ false → is_stuck (event k) ≡ false → ¬ HasStopped k
unfolding event
goes_on k running moves (inl halted) = true≢false (sym halted ∙ running)
goes_on k running moves (inr none) = true≢false (sym (ap₂ (λ h o. is_stuck (answer h o k)) running none) ∙ moves)

pub has_stopped : (k : Core) → k.halted ≡ false → is_stuck (event k) ≡ true → HasStopped k
unfolding event
has_stopped k running stuck = go (next_instr k) refl
  where
    go : (o : Option (Instr × ℕ)) → next_instr k ≡ o → HasStopped k
    go None is = inr is
    go (Some i) is = absurd (true≢false (sym stuck ∙ ap₂ (λ h o. is_stuck (answer h o k)) running is ∙ answer_not_stuck i k))

-- a stuck core stays
pub stuck_stays : (input : ℕ) (k : Core) → k.halted ≡ false → HasStopped k → core.step input k ≡ k
unfolding core.step
stuck_stays input k running (inl halted) = absurd (true≢false (sym halted ∙ running))
stuck_stays input k running (inr none) = ap₂ (λ h o. if h then k else core.after input o k) running none

-- the run from s has come to this core after so many steps, with these inputs left and this text of its outputs, and has not stopped before
pub record AdvancesTo (s : State) (steps : ℕ) (k : Core) (inputs text : List ℕ) : Type 0 where
  pub core : k ≡ (run s steps).core
  pub rest : inputs ≡ (run s steps).inputs
  pub put : text ≡ output_lines (run s steps).outputs
  pub going : (i : ℕ) → i < steps → ¬ HasStopped (run s i).core

pub begins : (k : Core) (inputs : List ℕ) → AdvancesTo (record { core = k; inputs = inputs; outputs = [] }) 0 k inputs []
begins k inputs = record { core = refl; rest = refl; put = refl; going = λ i lt. absurd (omega arith) }

-- one more step
pub one_more_step : (s : State) (steps : ℕ) (k new : Core) (inputs inputs' text text' : List ℕ) → AdvancesTo s steps k inputs text
    → k.halted ≡ false → is_stuck (event k) ≡ false → new ≡ core.step (unwrap_or (slice_get inputs 0) 255) k
    → inputs' ≡ inputs_after (event k) inputs → text' ≡ text ++ output_lines (outputs_of (event k))
    → AdvancesTo s (steps + 1) new inputs' text'
one_more_step s steps k new inputs inputs' text text' h running moves was left put =
    let t = run s steps in
    let input : unwrap_or (slice_get inputs 0) 255 ≡ next_input t = ap (λ xs. unwrap_or (slice_get xs 0) 255) h.rest in
    let next : run s (steps + 1) ≡ told t = ap (run s) (add-one steps) ∙ step_told t in
    record {
      core = was ∙ ap₂ core.step input h.core ∙ sym (ap (λ (u : State). u.core) next);
      rest = left ∙ ap₂ (λ (l : Core) (xs : List ℕ). inputs_after (event l) xs) h.core h.rest ∙ sym (ap (λ (u : State). u.inputs) next);
      put = put ∙ ap₂ (λ (xs : List ℕ) (l : Core). xs ++ output_lines (outputs_of (event l))) h.put h.core
          ∙ sym (flat_map-append output_line t.outputs (outputs_of (event t.core))) ∙ sym (ap (λ (u : State). output_lines u.outputs) next);
      going = below_more (λ i. ¬ HasStopped (run s i).core) steps h.going (subst (λ (l : Core). ¬ HasStopped l) h.core (goes_on k running moves));
    }

-- the run ends
pub ends_stopped : (s : State) (limit steps : ℕ) (k : Core) (inputs text : List ℕ) → AdvancesTo s steps k inputs text → steps ≤ limit → HasStopped k → EndsAfter s limit steps
ends_stopped s limit steps k inputs text h within stopped = record { within = within; going = h.going; ended = inr (subst HasStopped h.core stopped) }

pub ends_at_limit : (s : State) (limit steps : ℕ) (k : Core) (inputs text : List ℕ) → AdvancesTo s steps k inputs text → steps ≡ limit → EndsAfter s limit steps
ends_at_limit s limit steps k inputs text h same = record { within = omega arith; going = h.going; ended = inl same }
