use Rattle.std.proofs.Common.{[]}
use Rattle.sp_eval.proofs.BoundLemmas.{value_is_bounded, within_none}
use Rattle.sp_eval.proofs.laws.bounds_are_right.Goals as goal

pub returns : goal.returns
returns c = λ f x entry now h k. value_is_bounded f [] [] x entry now h k within_none
