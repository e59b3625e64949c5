use Rattle.std.proofs.Common.{refl}
use Rattle.sp_expr.specs.Trees.{spelling}
use Rattle.sp_expr.specs.Undefined.{first_undefined}
use Rattle.sp_expr.proofs.laws.refusals_by_example.Goals as goal

pub returns : goal.returns
unfolding first_undefined spelling
returns c = record {
  none = refl;
  leftmost = refl;
  undefined = refl;
  divisor = refl;
  value = refl;
}
