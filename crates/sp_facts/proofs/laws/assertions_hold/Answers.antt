use Rattle.sp_facts.proofs.EndLemmas.{assertions_hold}
use Rattle.sp_facts.proofs.laws.assertions_hold.Goals as goal

pub returns : goal.returns
returns c = assertions_hold
