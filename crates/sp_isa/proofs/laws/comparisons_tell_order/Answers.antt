use Rattle.sp_isa.proofs.UndoLemmas.{comparisons_tell}
use Rattle.sp_isa.proofs.laws.comparisons_tell_order.Goals as goal

pub returns : goal.returns
returns c = comparisons_tell
