use Rattle.std.proofs.Common.{◌≡◌, arith, refl, sym, rules}
use Rattle.std.specs.Prelude.{slice_get, unwrap_or}
use Rattle.sp_model.specs.State.{run}
use Rattle.sp_trial.specs.Trials.{AnswersRun}
use Rattle.sp_trial.specs.code.Courses.{setup_of, IsLast}
use Rattle.sp_trial.proofs.RunLemmas.{asserted_evaluable, comes, goes_on, last_is, same_input, wider_gives}
use Rattle.sp_trial.proofs.trying.follow.Goals as goal

pub take_turn-requires-clause-asserts : goal.take_turn-requires-clause-asserts
take_turn-requires-clause-asserts c =
    asserted_evaluable c.args.plan.now.unit.now.image c.loop-steps.machine.pc c.args.plan.now.routine.now.code c.requires.rules.code

pub stop-requires-clause-asserts : goal.stop-requires-clause-asserts
stop-requires-clause-asserts c =
    asserted_evaluable c.args.plan.now.unit.now.image c.loop-steps.machine.pc c.args.plan.now.routine.now.code c.requires.rules.code

pub returns-in-Ends : goal.returns-in-Ends
returns-in-Ends c =
    let y = setup_of c.args.plan.now c.args.inputs.now in
    let steps = c.loop-steps.steps in
    let core = c.loop-steps.machine in
    let rest = c.loop-steps.rest.now in
    let f = c.loop-steps.invariant in
    let input : c.unwrap_or-input.result ≡ unwrap_or (slice_get rest 0) 255 = search rules in
    let lt = c.loop-steps-test.true in
    (steps, comes y steps core rest f c.args.n (omega (arith, lt)), c.in-Ends.ensures c.args.inputs.now c.args.n (run y.start steps) lt (sym f.there) (same_input y steps core rest f c.unwrap_or-input.result input))

pub returns-in-TooLong : goal.returns-in-TooLong
returns-in-TooLong c =
    let y = setup_of c.args.plan.now c.args.inputs.now in
    let steps = c.loop-steps.steps in
    let core = c.loop-steps.machine in
    let rest = c.loop-steps.rest.now in
    let f = c.loop-steps.invariant in
    let input : c.unwrap_or-input.result ≡ unwrap_or (slice_get rest 0) 255 = search rules in
    let lt = c.loop-steps-test.true in
    ((steps, comes y steps core rest f c.args.n (omega (arith, lt)), c.in-TooLong.ensures c.args.inputs.now c.args.n (run y.start steps) lt (sym f.there) (same_input y steps core rest f c.unwrap_or-input.result input)), refl)

pub loop-steps-preserved : goal.loop-steps-preserved
loop-steps-preserved c =
    let y = setup_of c.args.plan.now c.args.inputs.now in
    let steps = c.loop-steps.steps in
    let core = c.loop-steps.machine in
    let rest = c.loop-steps.rest.now in
    let f = c.loop-steps.invariant in
    let input : c.unwrap_or-input.result ≡ unwrap_or (slice_get rest 0) 255 = search rules in
    let on = c.in-GoesOn.ensures c.args.inputs.now c.args.n (run y.start steps) c.loop-steps-test.true (sym f.there) (same_input y steps core rest f c.unwrap_or-input.result input) in
    goes_on y steps core rest f c.take_turn.new.machine c.in-GoesOn.event c.inputs_after-rest.result.now on.0.0 on.0.1 on.1 c.inputs_after-rest.ensures

pub returns : goal.returns
returns c =
    let plan = c.args.plan.now in
    let y = setup_of plan c.args.inputs.now in
    let all : c.loop-steps.steps ≡ c.args.n = omega arith in
    wider_gives plan.budget (IsLast plan c.loop-steps.machine c.args.n) (AnswersRun y c.args.n)
    (last_is plan c.requires.plan c.args.inputs.now c.loop-steps.rest.now c.args.n c.loop-steps.steps c.loop-steps.machine c.loop-steps.invariant all) c.stop.result c.stop.ensures
