use Rattle.sp_model.proofs.NoteLemmas.{divides_down}
use Rattle.sp_model.proofs.laws.notes_divide_down.Goals as goal

pub returns : goal.returns
returns c = divides_down
