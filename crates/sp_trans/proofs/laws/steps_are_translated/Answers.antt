use Rattle.sp_trans.proofs.StepLemmas.{steps_are_translated}
use Rattle.sp_trans.proofs.laws.steps_are_translated.Goals as goal

pub returns : goal.returns
returns c = steps_are_translated
