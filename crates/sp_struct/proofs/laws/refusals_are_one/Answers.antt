use Rattle.sp_struct.proofs.OneLemmas.{one_cause}
use Rattle.sp_struct.proofs.laws.refusals_are_one.Goals as goal

pub returns : goal.returns
returns c = record { one = λ p line there k other u. one_cause p u line there k other }
