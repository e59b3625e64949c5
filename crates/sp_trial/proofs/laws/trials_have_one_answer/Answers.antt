use Rattle.sp_trial.proofs.AnswerLemmas.{trials_have_one_answer}
use Rattle.sp_trial.proofs.laws.trials_have_one_answer.Goals as goal

pub returns : goal.returns
returns c = trials_have_one_answer
