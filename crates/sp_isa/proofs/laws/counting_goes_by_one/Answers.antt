use Rattle.sp_isa.proofs.SumLemmas.{counts_by_one}
use Rattle.sp_isa.proofs.laws.counting_goes_by_one.Goals as goal

pub returns : goal.returns
returns c = counts_by_one
