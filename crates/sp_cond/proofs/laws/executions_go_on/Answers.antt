use Rattle.sp_cond.proofs.ExecutionLemmas.{more_steps}
use Rattle.sp_cond.proofs.laws.executions_go_on.Goals as goal

pub returns : goal.returns
returns c = more_steps
