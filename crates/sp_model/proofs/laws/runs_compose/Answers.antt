use Rattle.sp_model.proofs.StateLemmas.{runs_compose}
use Rattle.sp_model.proofs.laws.runs_compose.Goals as goal

pub returns : goal.returns
returns c = runs_compose
