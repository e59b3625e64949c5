use Rattle.sp_rules_laws.proofs.ProperLemmas.{stays_proper}
use Rattle.sp_rules_laws.proofs.laws.states_stay_proper.Goals as goal

pub returns : goal.returns
returns c = stays_proper
