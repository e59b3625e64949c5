use Rattle.sp_examples.proofs.PartLemmas.{stand_for_values}
use Rattle.sp_examples.proofs.laws.parts_stand_for_their_values.Goals as goal

pub returns : goal.returns
returns c = stand_for_values
