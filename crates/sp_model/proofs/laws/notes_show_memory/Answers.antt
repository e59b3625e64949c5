use Rattle.sp_model.proofs.NoteLemmas.{memory}
use Rattle.sp_model.proofs.laws.notes_show_memory.Goals as goal

pub returns : goal.returns
returns c = memory
