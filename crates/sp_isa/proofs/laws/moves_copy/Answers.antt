use Rattle.sp_isa.proofs.MoveLemmas.{moves}
use Rattle.sp_isa.proofs.laws.moves_copy.Goals as goal

pub returns : goal.returns
returns c = moves
