use Rattle.std.proofs.Common.{refl}
use Rattle.sp_unit_laws.proofs.laws.bound_names_by_example.Goals as goal

pub returns : goal.returns
returns c = record {
  area_hidden = refl;
  number_hidden = refl;
  other = refl;
  at_entry = refl;
  element = refl;
  address = refl;
  length = refl;
}
