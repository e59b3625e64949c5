use Rattle.sp_trans.proofs.ClosedLemmas.{states_stay_symbolic}
use Rattle.sp_trans.proofs.laws.states_stay_symbolic.Goals as goal

pub returns : goal.returns
returns c = states_stay_symbolic
