use Rattle.sp_isa.proofs.CoreLemmas.{effects_keep_cores}
use Rattle.sp_isa.proofs.laws.effects_keep_cores.Goals as goal

pub returns : goal.returns
returns c = effects_keep_cores
