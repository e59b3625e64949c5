use Rattle.sp_isa.proofs.SumLemmas.{counts_pairs_by_one}
use Rattle.sp_isa.proofs.laws.pairs_count_by_one.Goals as goal

pub returns : goal.returns
returns c = counts_pairs_by_one
