use Rattle.sp_struct.proofs.LeastLemmas.{one_depth}
use Rattle.sp_struct.proofs.laws.depths_are_one.Goals as goal

pub returns : goal.returns
returns c = record { one = one_depth }
