use Rattle.sp_model.proofs.NoteLemmas.{connected}
use Rattle.sp_model.proofs.laws.notes_connect.Goals as goal

pub returns : goal.returns
returns c = connected
