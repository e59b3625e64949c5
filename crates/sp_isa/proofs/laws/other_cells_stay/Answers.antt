use Rattle.sp_isa.proofs.OutcomeLemmas.{other_cells_stay}
use Rattle.sp_isa.proofs.laws.other_cells_stay.Goals as goal

pub returns : goal.returns
returns c = other_cells_stay
