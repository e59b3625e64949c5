use Rattle.std.proofs.Common.{inr, subst}
use Rattle.sp_trial.specs.Judged.{AreTrueIn}
use Rattle.sp_trial.specs.Trials.{AnswersRun}
use Rattle.sp_trial.specs.code.Courses.{evaluation, setup_of, AnswersEntered}
use Rattle.sp_trial.proofs.RunLemmas.{wider_gives}
use Rattle.sp_trial.proofs.trying.enter.Goals as goal

pub returns-in-AllTrue : goal.returns-in-AllTrue
returns-in-AllTrue c =
    let plan = c.args.plan.now in
    wider_gives plan.budget (AnswersRun (setup_of plan c.args.inputs.now) c.args.n) (AnswersEntered plan c.args.inputs.now c.args.n)
    (λ a x. inr (inr (subst (AreTrueIn (evaluation plan plan.entry.now)) c.as_slice.ensures c.in-AllTrue.ensures, x))) c.follow.result c.follow.ensures
