use Rattle.sp_model.proofs.StateLemmas.{stopped_states_stay}
use Rattle.sp_model.proofs.laws.stopped_states_stay.Goals as goal

pub returns : goal.returns
returns c = stopped_states_stay
