use Rattle.sp_isa.proofs.SumLemmas.{adds}
use Rattle.sp_isa.proofs.laws.additions_are_sums.Goals as goal

pub returns : goal.returns
returns c = adds
