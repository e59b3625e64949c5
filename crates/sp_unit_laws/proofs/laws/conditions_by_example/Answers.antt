use Rattle.std.proofs.Common.{refl}
use Rattle.sp_unit_laws.proofs.laws.conditions_by_example.Goals as goal

pub returns : goal.returns
returns c = record {
  quantifier = refl;
  after_quantifier = refl;
  inner_quantifier = refl;
  unknown_end = refl;
  unknown_side = refl;
  truth = refl;
  inverted = refl;
  inverted_unknown = refl;
  number = refl;
}
