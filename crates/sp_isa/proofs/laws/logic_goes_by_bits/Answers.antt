use Rattle.sp_isa.proofs.MoveLemmas.{operates}
use Rattle.sp_isa.proofs.laws.logic_goes_by_bits.Goals as goal

pub returns : goal.returns
returns c = operates
