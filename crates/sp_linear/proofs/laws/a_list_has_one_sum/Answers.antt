use Rattle.sp_linear.proofs.DecideLemmas.{one_sum}
use Rattle.sp_linear.proofs.laws.a_list_has_one_sum.Goals as goal

pub returns : goal.returns
returns c = one_sum
