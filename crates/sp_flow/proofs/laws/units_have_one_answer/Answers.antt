use Rattle.sp_flow.proofs.AnswerLemmas.{one_refusal}
use Rattle.sp_flow.proofs.laws.units_have_one_answer.Goals as goal

pub returns : goal.returns
returns c = λ p. record {
  one = one_refusal p;
  apart = λ line k flowing refused. flowing line k refused.broken;
}
