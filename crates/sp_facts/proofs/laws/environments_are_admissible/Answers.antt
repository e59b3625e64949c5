use Rattle.sp_facts.proofs.AdmissibleLemmas.{environments_are_admissible}
use Rattle.sp_facts.proofs.laws.environments_are_admissible.Goals as goal

pub returns : goal.returns
returns c = environments_are_admissible
