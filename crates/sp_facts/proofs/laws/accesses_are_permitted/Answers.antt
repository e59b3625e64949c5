use Rattle.sp_facts.proofs.EndLemmas.{accesses_are_permitted}
use Rattle.sp_facts.proofs.laws.accesses_are_permitted.Goals as goal

pub returns : goal.returns
returns c = accesses_are_permitted
