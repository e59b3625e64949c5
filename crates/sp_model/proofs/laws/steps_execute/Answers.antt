use Rattle.sp_model.proofs.StateLemmas.{steps_execute}
use Rattle.sp_model.proofs.laws.steps_execute.Goals as goal

pub returns : goal.returns
returns c = steps_execute
