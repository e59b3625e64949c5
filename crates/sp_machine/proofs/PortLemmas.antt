-- A step of the machine is a step of the model, and its event tells what happened at the ports.
use Rattle.std.proofs.Common.{◌≡◌, ◌∙◌, sym, ap, ap₂, refl, ℕ, Bool, true, false, List, ◌++◌, drop, Option, Some, None, is_some}
use Rattle.std.specs.Prelude.{option_to_list, if◌then◌else◌}
use Rattle.std.specs.Option.{option_map, option_and_then}
use Rattle.sp_isa.specs.declared.instr.Instr.{Instr}
use Rattle.sp_isa.specs.declared.instr.Instr.TheVariants as instr
use Rattle.sp_isa.specs.Core.{Core}
use Rattle.sp_isa.specs.Effect.{takes_input, gives_output}
use Rattle.sp_isa.specs.Step as processor
use Rattle.sp_machine.specs.declared.event.Event.{Event}
use Rattle.sp_machine.specs.declared.event.Event.TheVariants.{Halted}
use Rattle.sp_machine.specs.Event.{event, event_of, running_event}
use Rattle.sp_machine.specs.Ports.{is_stuck, inputs_after, outputs_of, IsModelStep, StepsAreTold}
use Rattle.sp_model.specs.State.{State, next_instr, next_input, step}

inputs_told : (i : Instr) (k : Core) (inputs : List ℕ)
    → inputs_after (event_of i k) inputs ≡ (if is_some (takes_input i) then drop 1 inputs else inputs)
inputs_told (instr.In port) k inputs = refl
inputs_told (instr.Out port) k inputs = refl
inputs_told instr.Hlt k inputs = refl
inputs_told _ k inputs = refl

outputs_told : (i : Instr) (k : Core) → outputs_of (event_of i k) ≡ option_to_list (gives_output i k)
outputs_told (instr.In port) k = refl
outputs_told (instr.Out port) k = refl
outputs_told instr.Hlt k = refl
outputs_told _ k = refl

never_stuck : (i : Instr) (k : Core) → is_stuck (event_of i k) ≡ false
never_stuck (instr.In port) k = refl
never_stuck (instr.Out port) k = refl
never_stuck instr.Hlt k = refl
never_stuck _ k = refl

-- what a core answers, by whether it is halted and by what decodes at its program counter
abbrev pub answer : Bool → Option (Instr × ℕ) → Core → Event
answer h o k = if h then Halted else running_event o k

-- a running core that fetches an instruction doesn't answer that it is stuck
pub answer_not_stuck : (i : Instr × ℕ) (k : Core) → is_stuck (answer false (Some i) k) ≡ false
answer_not_stuck i k = never_stuck i.0 k

-- the instruction that is executed, by the same two
abbrev executes : Bool → Option (Instr × ℕ) → Option Instr
executes h o = if h then None else option_map (λ p. p.0) o

inputs_by : (h : Bool) (o : Option (Instr × ℕ)) (k : Core) (inputs : List ℕ)
    → inputs_after (answer h o k) inputs ≡ (if is_some (option_and_then takes_input (executes h o)) then drop 1 inputs else inputs)
inputs_by true o k inputs = refl
inputs_by false None k inputs = refl
inputs_by false (Some i) k inputs = inputs_told i.0 k inputs

outputs_by : (h : Bool) (o : Option (Instr × ℕ)) (k : Core)
    → outputs_of (answer h o k) ≡ option_to_list (option_and_then (λ i. gives_output i k) (executes h o))
outputs_by true o k = refl
outputs_by false None k = refl
outputs_by false (Some i) k = outputs_told i.0 k

-- the state that a step of the core and its event make
abbrev pub told : State → State
told s = record {
  core = processor.step (next_input s) s.core;
  inputs = inputs_after (event s.core) s.inputs;
  outputs = s.outputs ++ outputs_of (event s.core);
}

pub step_told : (s : State) → step s ≡ told s
unfolding step event
step_told s = λ j. record {
  core = processor.step (next_input s) s.core;
  inputs = sym (inputs_by s.core.halted (next_instr s.core) s.core s.inputs) j;
  outputs = s.outputs ++ sym (outputs_by s.core.halted (next_instr s.core) s.core) j;
}

-- the core's step and its event make a step of the model
pub is_model_step : (input : ℕ) (old new : Core) (happened : Event)
    → new ≡ processor.step input old → happened ≡ event old → IsModelStep input old new happened
is_model_step input old new happened stepped answered s core next =
    step_told s ∙ λ j. record {
      core = (ap₂ processor.step next core ∙ sym stepped) j;
      inputs = inputs_after ((ap event core ∙ sym answered) j) s.inputs;
      outputs = s.outputs ++ outputs_of ((ap event core ∙ sym answered) j);
    }

pub steps_are_told : StepsAreTold
steps_are_told s = is_model_step (next_input s) s.core _ _ refl refl
