use Rattle.sp_trial.specs.Trials.{Answers}
use Rattle.sp_trial.specs.code.Courses.{setup_of, AnswersEntered}
use Rattle.sp_trial.proofs.RunLemmas.{entered, wider_gives}
use Rattle.sp_trial.proofs.trying.begin.Goals as goal

pub returns : goal.returns
returns c =
    let plan = c.args.plan.now in
    wider_gives plan.budget (AnswersEntered plan c.args.inputs.now c.args.n) (Answers (setup_of plan c.args.inputs.now) c.args.n)
    (entered plan c.requires.plan c.args.inputs.now c.args.n c.requires.may) c.enter-told.result c.enter-told.ensures
