use Rattle.std.proofs.Common.{refl}
use Rattle.sp_unit_laws.proofs.laws.places_by_example.Goals as goal

pub returns : goal.returns
returns c = record {
  instruction = refl;
  instruction_outside = refl;
  bytes_outside = refl;
  bytes_inside = refl;
  space_inside = refl;
  org_inside = refl;
  equ_inside = refl;
  label_inside = refl;
  word_in_pre = refl;
  word_in_post = refl;
  word_in_assertion = refl;
  post = refl;
  post_after_start = refl;
  post_before_start = refl;
  post_before_stray = refl;
  first_of_start = refl;
  first_after_label = refl;
  second_of_start = refl;
}
