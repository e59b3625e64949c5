use Rattle.sp_linear.proofs.LinearLemmas.{linear_sound}
use Rattle.sp_linear.proofs.laws.linear_keeps_truth.Goals as goal

pub returns : goal.returns
returns c = linear_sound
