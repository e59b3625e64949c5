use Rattle.sp_isa.proofs.UndoLemmas.{some_undo_others}
use Rattle.sp_isa.proofs.laws.some_instructions_undo_others.Goals as goal

pub returns : goal.returns
returns c = some_undo_others
