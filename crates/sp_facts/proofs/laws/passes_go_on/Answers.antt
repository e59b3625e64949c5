use Rattle.sp_facts.proofs.PassLemmas.{passes_go_on}
use Rattle.sp_facts.proofs.laws.passes_go_on.Goals as goal

pub returns : goal.returns
returns c = passes_go_on
