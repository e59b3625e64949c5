use Rattle.std.proofs.Common.{refl}
use Rattle.sp_note.proofs.laws.nesting_by_example.Goals as goal

pub returns : goal.returns
returns c = record {
  right_sides = refl;
  left_side = refl;
  sum = refl;
  measure = refl;
  ends = refl;
}
