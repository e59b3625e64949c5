use Rattle.sp_model.proofs.NoteLemmas.{orders}
use Rattle.sp_model.proofs.laws.notes_compare.Goals as goal

pub returns : goal.returns
returns c = orders
