use Rattle.std.proofs.Common.{◌≡◌, arith, rules}
use Rattle.sp_isa.specs.Core.{cell}
use Rattle.sp_isa.specs.Step.{step}
use Rattle.sp_machine.specs.declared.event.Event.TheVariants.{Halted, Stuck}
use Rattle.sp_machine.specs.Event.{event}
use Rattle.sp_machine.proofs.MachineLemmas.{still_core}
use Rattle.sp_machine.proofs.PortLemmas.{is_model_step}
use Rattle.sp_machine.proofs.machine.Machine.step.Goals as goal

pub returns-then-halted-clause-model : goal.returns-then-halted-clause-model
unfolding step event
returns-then-halted-clause-model c =
    is_model_step c.args.input c.args.self.now c.args.self.now Halted (search rules) (search rules)

pub returns-in_default-clause-model : goal.returns-in_default-clause-model
unfolding step event
returns-in_default-clause-model c =
    is_model_step c.args.input c.args.self.now c.args.self.now (Stuck (cell c.args.self.now.pc c.args.self.now)) (search rules) (search rules)

pub returns-clause-model : goal.returns-clause-model
unfolding step event
returns-clause-model c =
    is_model_step c.args.input c.args.self.now c.execute.new.self c.event_of-event.result (search rules) (search rules)

pub returns-clause-core : goal.returns-clause-core
unfolding step
returns-clause-core c =
    let e : c.execute.new.self ≡ step c.args.input c.args.self.now = search rules in
    still_core c.args.input c.args.self.now c.execute.new.self e (omega arith) c.halted.ensures.core
