use Rattle.sp_linear.proofs.BoundLemmas.{coefficient_le_size, length_is_count}
use Rattle.sp_linear.proofs.laws.coefficients_are_within_sizes.Goals as goal

pub returns-clause-size : goal.returns-clause-size
returns-clause-size c = coefficient_le_size

pub returns-clause-count : goal.returns-clause-count
returns-clause-count c = length_is_count
