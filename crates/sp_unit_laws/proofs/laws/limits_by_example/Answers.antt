use Rattle.std.proofs.Common.{refl}
use Rattle.sp_unit_laws.proofs.laws.limits_by_example.Goals as goal

pub returns : goal.returns
returns c = record {
  pre_64 = refl;
  pre_65 = refl;
  post_65 = refl;
  post_after_pre = refl;
  assert_64 = refl;
  assert_65 = refl;
  next_instruction = refl;
  area_1024 = refl;
  area_1025 = refl;
  word_1025 = refl;
  bytes_1025 = refl;
  other_lines = refl;
  clash_first = refl;
  place_first = refl;
  routine_1024 = refl;
  routine_1025 = refl;
}
