use Rattle.sp_facts.proofs.StepLemmas.{steps_go_on}
use Rattle.sp_facts.proofs.laws.steps_go_on.Goals as goal

pub returns : goal.returns
returns c = steps_go_on
