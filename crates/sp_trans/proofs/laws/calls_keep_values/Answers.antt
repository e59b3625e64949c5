use Rattle.sp_trans.proofs.CallLemmas.{calls_keep_values}
use Rattle.sp_trans.proofs.laws.calls_keep_values.Goals as goal

pub returns : goal.returns
returns c = calls_keep_values
