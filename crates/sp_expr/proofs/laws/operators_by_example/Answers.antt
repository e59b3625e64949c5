use Rattle.std.proofs.Common.{refl}
use Rattle.sp_expr.proofs.laws.operators_by_example.Goals as goal

pub returns : goal.returns
returns c = record {
  product = refl;
  large_product = refl;
  quotient = refl;
  no_quotient = refl;
  remainder = refl;
  no_remainder = refl;
  left = refl;
  left_over = refl;
  left_out = refl;
  right = refl;
  right_last = refl;
  right_out = refl;
  sum = refl;
  large_sum = refl;
  difference = refl;
  negative = refl;
  both = refl;
  either = refl;
  one = refl;
}
