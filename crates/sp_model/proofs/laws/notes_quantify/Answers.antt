use Rattle.sp_model.proofs.NoteLemmas.{quantified}
use Rattle.sp_model.proofs.laws.notes_quantify.Goals as goal

pub returns : goal.returns
returns c = quantified
