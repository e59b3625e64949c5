use Rattle.sp_model.proofs.NoteLemmas.{sums}
use Rattle.sp_model.proofs.laws.notes_sum_cells.Goals as goal

pub returns : goal.returns
returns c = sums
