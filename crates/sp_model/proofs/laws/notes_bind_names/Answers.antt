use Rattle.sp_model.proofs.NoteLemmas.{binds_innermost}
use Rattle.sp_model.proofs.laws.notes_bind_names.Goals as goal

pub returns : goal.returns
returns c = binds_innermost
