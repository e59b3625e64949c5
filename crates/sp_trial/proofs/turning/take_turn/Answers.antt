use Rattle.std.proofs.Common.{◌≡◌, rules, subst}
use Rattle.sp_trial.specs.Judged.{AreTrueIn}
use Rattle.sp_trial.specs.Setup.{asserted_at}
use Rattle.sp_trial.specs.code.Courses.{evaluation}
use Rattle.sp_trial.proofs.TurnLemmas.{all_true}
use Rattle.sp_trial.proofs.turning.take_turn.Goals as goal

pub returns-in-AllTrue : goal.returns-in-AllTrue
returns-in-AllTrue c = λ inputs n t lt core next.
    let plan = c.args.plan.now in
    let e : c.asserted_at-asserts.result.now ≡ asserted_at plan.routine.now.code c.args.machine.now.pc = search rules in
    all_true plan c.requires.plan inputs t c.args.machine.now core n c.args.steps
    (subst (AreTrueIn (evaluation plan c.args.machine.now)) e c.in-AllTrue.ensures)
    c.args.machine.now c.advance.new.machine c.advance.result (c.advance.ensures inputs n t lt core next)
