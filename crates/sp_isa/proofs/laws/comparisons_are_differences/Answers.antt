use Rattle.sp_isa.proofs.SumLemmas.{compares}
use Rattle.sp_isa.proofs.laws.comparisons_are_differences.Goals as goal

pub returns : goal.returns
returns c = compares
