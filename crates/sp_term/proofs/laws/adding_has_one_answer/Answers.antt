use Rattle.sp_term.proofs.AddingLemmas.{one_answer}
use Rattle.sp_term.proofs.laws.adding_has_one_answer.Goals as goal

pub returns : goal.returns
returns c = one_answer
