-- What the events of the machine tell of its ports, and the machine's step as a step of the model.
use Rattle.std.specs.Prelude.{◌≡◌, ℕ, Bool, true, false, List, [], ◌∷◌, ◌++◌, drop}
use Rattle.sp_isa.specs.Core.{Core}
use Rattle.sp_isa.specs.Step as processor
use Rattle.sp_machine.specs.declared.event.Event.{Event}
use Rattle.sp_machine.specs.declared.event.Event.TheVariants.{In, Out, Stuck}
use Rattle.sp_machine.specs.Event.{event}
use Rattle.sp_model.specs.State.{State, next_input, step}

abbrev pub is_stuck : Event → Bool
is_stuck (Stuck _) = true
is_stuck _ = false

-- the inputs still to come: IN uses up the next one
abbrev pub inputs_after : Event → List ℕ → List ℕ
inputs_after (In port) inputs = drop 1 inputs
inputs_after _ inputs = inputs

-- what was put out, as a port with its byte
abbrev pub outputs_of : Event → List (ℕ × ℕ)
outputs_of (Out port byte) = (port, byte) ∷ []
outputs_of _ = []

-- from a state with this core, whose next input is this byte, the model's step comes to that core, and the event tells
-- what happened at the ports
abbrev pub IsModelStep : ℕ → Core → Core → Event → Type 0
IsModelStep input old new happened =
    (s : State) → s.core ≡ old → next_input s ≡ input
    → step s ≡ record { core = new; inputs = inputs_after happened s.inputs; outputs = s.outputs ++ outputs_of happened }

-- a step of the state is the step of its core that takes the next input, and the event tells what happened at the ports
abbrev pub StepsAreTold : Type 0
StepsAreTold =
    (s : State) → IsModelStep (next_input s) s.core (processor.step (next_input s) s.core) (event s.core)
