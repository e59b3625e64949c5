use Rattle.sp_facts.proofs.EnvironmentLemmas.{environments_agree}
use Rattle.sp_facts.proofs.laws.environments_agree.Goals as goal

pub returns : goal.returns
returns c = environments_agree
