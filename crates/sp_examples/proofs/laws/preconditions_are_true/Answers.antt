use Rattle.sp_examples.proofs.GateLemmas.{pre_law}
use Rattle.sp_examples.proofs.laws.preconditions_are_true.Goals as goal

pub returns : goal.returns
returns c = pre_law
