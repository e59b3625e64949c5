use Rattle.std.proofs.Common.{refl}
use Rattle.sp_note.proofs.laws.sorts_by_example.Goals as goal

pub returns : goal.returns
returns c = record {
  number = refl;
  sum_of_truth = refl;
  comparison = refl;
  truths_compared = refl;
  inverted_number = refl;
  cell_of_truth = refl;
}
