use Rattle.sp_trans.proofs.NoteLemmas.{notes_are_translated}
use Rattle.sp_trans.proofs.laws.notes_are_translated.Goals as goal

pub returns : goal.returns
returns c = notes_are_translated
