use Rattle.sp_examples.proofs.FarLemmas.{far_good, far_bad}
use Rattle.sp_examples.proofs.laws.other_returns_are_jumps.Goals as goal

pub returns : goal.returns
returns c = record { good = far_good; bad = far_bad }
