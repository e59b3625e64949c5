use Rattle.sp_model.proofs.NoteLemmas.{whole_numbers}
use Rattle.sp_model.proofs.laws.notes_have_whole_numbers.Goals as goal

pub returns : goal.returns
returns c = whole_numbers
