use Rattle.sp_facts.proofs.EndLemmas.{callees_are_entered}
use Rattle.sp_facts.proofs.laws.callees_are_entered.Goals as goal

pub returns : goal.returns
returns c = callees_are_entered
