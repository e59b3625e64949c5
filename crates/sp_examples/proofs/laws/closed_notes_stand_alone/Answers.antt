use Rattle.sp_examples.proofs.ClosedLemmas.{need_no_names}
use Rattle.sp_examples.proofs.laws.closed_notes_stand_alone.Goals as goal

pub returns : goal.returns
returns c = need_no_names
