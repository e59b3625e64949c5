use Rattle.sp_model.proofs.NoteLemmas.{places}
use Rattle.sp_model.proofs.laws.notes_read_places.Goals as goal

pub returns : goal.returns
returns c = places
