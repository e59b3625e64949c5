use Rattle.sp_isa.proofs.CoreLemmas.{steps_keep_cores}
use Rattle.sp_isa.proofs.laws.steps_keep_cores.Goals as goal

pub returns : goal.returns
returns c = steps_keep_cores
