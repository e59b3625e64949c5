use Rattle.sp_safety.proofs.TwinLemmas.{premises_can_be_met}
use Rattle.sp_safety.proofs.laws.premises_can_be_met.Goals as goal

pub returns : goal.returns
returns c = premises_can_be_met
