use Rattle.sp_isa.proofs.MoveLemmas.{loads}
use Rattle.sp_isa.proofs.laws.loads_take_cells.Goals as goal

pub returns : goal.returns
returns c = loads
