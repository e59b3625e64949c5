use Rattle.std.proofs.Common.{refl}
use Rattle.sp_note.proofs.laws.bounds_by_example.Goals as goal

pub returns : goal.returns
returns c = record {
  product = refl;
  too_large = refl;
  of_a_part = refl;
  in_brackets = refl;
  flag = refl;
  register = refl;
  bound_name = refl;
  free_name = refl;
}
