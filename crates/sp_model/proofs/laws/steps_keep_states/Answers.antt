use Rattle.sp_model.proofs.StateLemmas.{steps_keep_states}
use Rattle.sp_model.proofs.laws.steps_keep_states.Goals as goal

pub returns : goal.returns
returns c = steps_keep_states
