use Rattle.sp_rules_laws.proofs.StepLemmas.{steps_keep}
use Rattle.sp_rules_laws.proofs.laws.steps_keep_truth.Goals as goal

pub returns : goal.returns
returns c = steps_keep
