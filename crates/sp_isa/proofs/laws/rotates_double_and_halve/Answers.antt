use Rattle.sp_isa.proofs.SumLemmas.{rotates}
use Rattle.sp_isa.proofs.laws.rotates_double_and_halve.Goals as goal

pub returns : goal.returns
returns c = rotates
