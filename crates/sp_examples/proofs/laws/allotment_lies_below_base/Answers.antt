use Rattle.sp_examples.proofs.WriteLemmas.{start_law, below_law}
use Rattle.sp_examples.proofs.laws.allotment_lies_below_base.Goals as goal

pub returns : goal.returns
returns c = record { start = start_law; other = below_law }
