use Rattle.sp_base.proofs.IntegerLemmas.{all_between_is, some_between_is}
use Rattle.sp_base.proofs.laws.ranges_are_tested.Goals as goal

pub returns : goal.returns
returns c = record { all = all_between_is; some = some_between_is }
