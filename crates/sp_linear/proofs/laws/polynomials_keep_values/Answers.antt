use Rattle.sp_linear.proofs.LinearLemmas.{values_same}
use Rattle.sp_linear.proofs.laws.polynomials_keep_values.Goals as goal

pub returns : goal.returns
returns c = values_same
