-- What a step of a state does, by whether the core is halted and by what decodes at its program counter.
use Rattle.std.proofs.Common.{◌≡◌, ◌∙◌, sym, ap, ap₂, subst, refl, ℕ, zero, suc, ◌<◌, arith, inl, inr, Bool, true, false, All, List, [], ◌∷◌, ◌++◌, drop, Option, Some, None, is_some, lit<, add-zero, add-suc, append-nil}
use Rattle.std.specs.Prelude.{slice_get, unwrap_or, option_to_list, if◌then◌else◌}
use Rattle.std.specs.Option.{option_map, option_and_then}
use Rattle.std.proofs.lemmas.List.Elements.{All-drop, All-append, All-nil, All-cons}
use Rattle.sp_base.specs.declared.location.Loc.TheVariants as loc
use Rattle.sp_isa.specs.declared.instr.Instr.{Instr}
use Rattle.sp_isa.specs.declared.instr.Instr.TheVariants as instr
use Rattle.sp_isa.specs.Core.{Core, IsCore}
use Rattle.sp_isa.specs.Code.{operand}
use Rattle.sp_isa.specs.Effect.{takes_input, gives_output}
use Rattle.sp_isa.specs.Step as processor
use Rattle.sp_isa.proofs.CoreLemmas.{effects_keep_cores, instr_at_bytes, only_byte}
use Rattle.sp_model.specs.State.{State, IsState, next_instr, next_input, executed, step, run, RunsCompose, StepsExecute, StoppedStatesStay, StepsKeepStates}

pub runs_compose : RunsCompose
runs_compose s m zero = ap (run s) (add-zero m)
runs_compose s m (suc n) = ap (run s) (add-suc m n) ∙ ap step (runs_compose s m n)

-- a step, by whether the core is halted and by what decodes at its program counter
abbrev step_by : Bool → Option (Instr × ℕ) → State → State
step_by halted next s =
    let current : Option Instr = if halted then None else option_map (λ p. p.0) next in
    record {
      core = if halted then s.core else processor.after (next_input s) next s.core;
      inputs = if is_some (option_and_then takes_input current) then drop 1 s.inputs else s.inputs;
      outputs = s.outputs ++ option_to_list (option_and_then (λ i. gives_output i s.core) current);
    }

step_is : (s : State) → step s ≡ step_by s.core.halted (next_instr s.core) s
unfolding step processor.step
step_is s = refl

-- a step executes the instruction at the program counter
pub steps_execute : StepsExecute
steps_execute s i n running next = step_is s ∙ ap₂ (λ h o. step_by h o s) running next

no_outputs : (s : State) → ◌≡◌ {A = State} (record s { outputs = s.outputs ++ [] }) s
no_outputs s = ap (λ (o : List (ℕ × ℕ)). record s { outputs = o }) (append-nil s.outputs)

stuck : (h : Bool) (s : State) → step_by h None s ≡ s
stuck true s = no_outputs s
stuck false s = no_outputs s

pub stopped_states_stay : StoppedStatesStay
stopped_states_stay s (inl halted) = step_is s ∙ ap (λ h. step_by h (next_instr s.core) s) halted ∙ no_outputs s
stopped_states_stay s (inr none) = step_is s ∙ ap (λ o. step_by s.core.halted o s) none ∙ stuck s.core.halted s

-- ---- A step keeps each part in its range

abbrev Low : ℕ → Type 0
Low byte = byte < 256

abbrev AreLow : ℕ × ℕ → Type 0
AreLow o = (o.0 < 256) × (o.1 < 256)

first_low : (inputs : List ℕ) → All Low inputs → unwrap_or (slice_get inputs 0) 255 < 256
first_low [] h = lit< tt
first_low (x ∷ xs) h = h 0 0 (omega arith)

inputs_low : (i : Instr) (inputs : List ℕ) → All Low inputs → All Low (if is_some (takes_input i) then drop 1 inputs else inputs)
inputs_low (instr.In port) inputs h = All-drop Low 1 inputs h
inputs_low _ inputs h = h

output_low : (i : Instr) (k : Core) → IsCore k → All Low (operand i) → All AreLow (option_to_list (gives_output i k))
output_low (instr.Out port) k h bytes = All-cons AreLow (port, k.a) [] (only_byte port bytes, h.locations loc.A) (All-nil AreLow)
output_low _ k h bytes = All-nil AreLow

-- an instruction whose operand bytes are bytes keeps each part in its range
pub executed_keeps_states : (i : Instr) (s : State) → All (λ byte. byte < 256) (operand i) → IsState s → IsState (executed i s)
executed_keeps_states i s bytes h = record {
  core = effects_keep_cores (next_input s) i s.core (first_low s.inputs h.inputs) bytes h.core;
  inputs = inputs_low i s.inputs h.inputs;
  outputs = All-append AreLow s.outputs (option_to_list (gives_output i s.core)) h.outputs (output_low i s.core h.core bytes);
}

pub steps_keep_states : StepsKeepStates
steps_keep_states s h = go s.core.halted (next_instr s.core) refl refl
  where
    go : (b : Bool) (o : Option (Instr × ℕ)) → s.core.halted ≡ b → next_instr s.core ≡ o → IsState (step s)
    go true o halted next = subst IsState (sym (stopped_states_stay s (inl halted))) h
    go false None running next = subst IsState (sym (stopped_states_stay s (inr next))) h
    go false (Some p) running next =
        subst IsState (sym (steps_execute s p.0 p.1 running next))
        (executed_keeps_states p.0 s (instr_at_bytes s.core.pc s.core p.0 p.1 h.core next) h)
