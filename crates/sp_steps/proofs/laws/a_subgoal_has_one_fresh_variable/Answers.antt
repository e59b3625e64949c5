use Rattle.sp_steps.proofs.OneLemmas.{fresh_one}
use Rattle.sp_steps.proofs.laws.a_subgoal_has_one_fresh_variable.Goals as goal

pub returns : goal.returns
returns c = fresh_one
