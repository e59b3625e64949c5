use Rattle.sp_check.proofs.AnswerLemmas.{one_answer}
use Rattle.sp_check.proofs.laws.sources_have_one_answer.Goals as goal

pub returns : goal.returns
returns c = one_answer
