use Rattle.sp_isa.proofs.UndoLemmas.{pops_restore}
use Rattle.sp_isa.proofs.laws.pops_restore_what_was_pushed.Goals as goal

pub returns : goal.returns
returns c = pops_restore
