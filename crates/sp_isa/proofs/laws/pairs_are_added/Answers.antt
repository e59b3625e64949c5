use Rattle.sp_isa.proofs.SumLemmas.{adds_pairs}
use Rattle.sp_isa.proofs.laws.pairs_are_added.Goals as goal

pub returns : goal.returns
returns c = adds_pairs
