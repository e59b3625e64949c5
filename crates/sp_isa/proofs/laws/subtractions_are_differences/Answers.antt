use Rattle.sp_isa.proofs.SumLemmas.{subtracts}
use Rattle.sp_isa.proofs.laws.subtractions_are_differences.Goals as goal

pub returns : goal.returns
returns c = subtracts
