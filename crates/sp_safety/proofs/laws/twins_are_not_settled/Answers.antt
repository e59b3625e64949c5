use Rattle.sp_safety.proofs.TwinLemmas.{twins_are_not_settled}
use Rattle.sp_safety.proofs.laws.twins_are_not_settled.Goals as goal

pub returns : goal.returns
returns c = twins_are_not_settled
