use Rattle.sp_facts.proofs.CallLemmas.{calls_go_on}
use Rattle.sp_facts.proofs.laws.calls_go_on.Goals as goal

pub returns : goal.returns
returns c = calls_go_on
