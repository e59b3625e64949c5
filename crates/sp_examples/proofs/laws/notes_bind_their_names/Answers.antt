use Rattle.sp_examples.proofs.NoteLemmas.{binds_everywhere}
use Rattle.sp_examples.proofs.laws.notes_bind_their_names.Goals as goal

pub returns : goal.returns
returns c = binds_everywhere
