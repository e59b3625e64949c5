use Rattle.std.proofs.Common.{refl}
use Rattle.sp_expr.proofs.laws.values_by_example.Goals as goal

pub returns : goal.returns
returns c = record {
  number = refl;
  large_number = refl;
  name = refl;
  address = refl;
  minus = refl;
  plus = refl;
  inverted = refl;
  difference = refl;
  no_divisor = refl;
}
