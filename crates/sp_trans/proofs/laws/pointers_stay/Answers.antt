use Rattle.sp_trans.proofs.PointerLemmas.{pointers_stay}
use Rattle.sp_trans.proofs.laws.pointers_stay.Goals as goal

pub returns : goal.returns
returns c = pointers_stay
