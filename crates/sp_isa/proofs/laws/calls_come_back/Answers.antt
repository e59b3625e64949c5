use Rattle.sp_isa.proofs.UndoLemmas.{calls_come_back}
use Rattle.sp_isa.proofs.laws.calls_come_back.Goals as goal

pub returns : goal.returns
returns c = calls_come_back
