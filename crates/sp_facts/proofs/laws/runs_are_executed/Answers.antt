use Rattle.sp_facts.proofs.AlongLemmas.{runs_are_executed}
use Rattle.sp_facts.proofs.laws.runs_are_executed.Goals as goal

pub returns : goal.returns
returns c = runs_are_executed
