use Rattle.sp_trial.specs.Setup.{setup}
use Rattle.sp_trial.specs.Trials.{Answers}
use Rattle.sp_trial.proofs.AnswerLemmas.{gives_each, trials_have_one_answer}
use Rattle.sp_trial.proofs.trying.trial.Goals as goal

pub returns-clause-each : goal.returns-clause-each
returns-clause-each c = λ r among.
    let y = setup c.args.unit.now r c.args.start.now c.args.inputs.now c.args.budget in
    gives_each c.args.budget (Answers y c.args.n) (trials_have_one_answer y c.args.n) c.try_from-told.result (c.try_from-told.ensures r among)
