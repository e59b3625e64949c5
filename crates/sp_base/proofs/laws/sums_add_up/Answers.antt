use Rattle.sp_base.proofs.IntegerLemmas.{sum_between_none, sum_between_one, sum_between-parts}
use Rattle.sp_base.proofs.laws.sums_add_up.Goals as goal

pub returns : goal.returns
returns c = record { none = sum_between_none; one = sum_between_one; parts = sum_between-parts }
