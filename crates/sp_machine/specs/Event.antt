-- What a step answers.
use Rattle.std.specs.Prelude.{Option, Some, None, ℕ, if◌then◌else◌}
use Rattle.sp_isa.specs.declared.instr.Instr.{Instr}
use Rattle.sp_isa.specs.declared.instr.Instr.TheVariants as instr
use Rattle.sp_isa.specs.Core.{Core, cell}
use Rattle.sp_isa.specs.Step.{instr_at}
use Rattle.sp_machine.specs.declared.event.Event.{Event}
use Rattle.sp_machine.specs.declared.event.Event.TheVariants.{Plain, In, Out, Halted, Stuck}

-- what an instruction answers
abbrev pub event_of : Instr → Core → Event
event_of (instr.In port) core = In port
event_of (instr.Out port) core = Out port core.a
event_of instr.Hlt core = Halted
event_of _ core = Plain

-- what a core that isn't halted answers, by the instruction at its program counter
abbrev pub running_event : Option (Instr × ℕ) → Core → Event
running_event (Some p) core = event_of p.0 core
running_event None core = Stuck (cell core.pc core)

-- what a step of the core answers
unfoldable pub event : Core → Event
event core = if core.halted then Halted else running_event (instr_at core.pc core) core
