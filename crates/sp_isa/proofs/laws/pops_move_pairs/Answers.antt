use Rattle.sp_isa.proofs.UndoLemmas.{pops_move}
use Rattle.sp_isa.proofs.laws.pops_move_pairs.Goals as goal

pub returns : goal.returns
returns c = pops_move
