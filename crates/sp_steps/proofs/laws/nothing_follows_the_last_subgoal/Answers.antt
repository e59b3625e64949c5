use Rattle.sp_steps.proofs.OneLemmas.{next_none}
use Rattle.sp_steps.proofs.laws.nothing_follows_the_last_subgoal.Goals as goal

pub returns : goal.returns
returns c = next_none
