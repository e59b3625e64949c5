use Rattle.std.proofs.Common.{◌≡◌, ◌∙◌, true, false, [], arith, rules}
use Rattle.sp_machine.specs.Event.{event}
use Rattle.sp_machine.specs.Ports.{is_stuck}
use Rattle.sp_run.proofs.StepLaws.{has_stopped, stuck_stays, one_more_step, ends_stopped}
use Rattle.sp_run.proofs.course.advance.Goals as goal

pub returns-then-is_stuck-clause-ends : goal.returns-then-is_stuck-clause-ends
returns-then-is_stuck-clause-ends c =
    let running : c.loop-steps.machine.halted ≡ false = cc in
    let stuck : is_stuck (event c.loop-steps.machine) ≡ true = cc in
    ends_stopped (record { core = c.args.machine.now; inputs = c.args.inputs.now; outputs = [] }) c.args.limit c.loop-steps.steps
    c.loop-steps.machine c.loop-steps.rest.now c.loop-steps.text.items c.loop-steps.invariant (omega arith) (has_stopped c.loop-steps.machine running stuck)

pub returns-then-is_stuck-clause-core : goal.returns-then-is_stuck-clause-core
returns-then-is_stuck-clause-core c =
    let running : c.loop-steps.machine.halted ≡ false = cc in
    let stuck : is_stuck (event c.loop-steps.machine) ≡ true = cc in
    c.step-event.ensures.state ∙ stuck_stays c.unwrap_or.result c.loop-steps.machine running (has_stopped c.loop-steps.machine running stuck) ∙ c.loop-steps.invariant.core

pub loop-steps-preserved : goal.loop-steps-preserved
loop-steps-preserved c =
    let running : c.loop-steps.machine.halted ≡ false = cc in
    let moves : is_stuck (event c.loop-steps.machine) ≡ false = cc in
    one_more_step (record { core = c.args.machine.now; inputs = c.args.inputs.now; outputs = [] }) c.loop-steps.steps
    c.loop-steps.machine c.step-event.new.self c.loop-steps.rest.now c.inputs_after-rest.result.now c.loop-steps.text.items c.push_outputs.new.text.items
    c.loop-steps.invariant running moves (search rules) (search rules) (search rules)
