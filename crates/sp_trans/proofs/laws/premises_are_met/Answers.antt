use Rattle.sp_trans.proofs.ExampleLemmas.{premises_are_met}
use Rattle.sp_trans.proofs.laws.premises_are_met.Goals as goal

pub returns : goal.returns
returns c = premises_are_met
