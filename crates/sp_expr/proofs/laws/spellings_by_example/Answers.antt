use Rattle.std.proofs.Common.{refl}
use Rattle.sp_expr.specs.Trees.{spelling}
use Rattle.sp_expr.proofs.laws.spellings_by_example.Goals as goal

pub returns : goal.returns
unfolding spelling
returns c = record {
  leaves = refl;
  prefixes = refl;
  signs_are_flat = refl;
  nots_nest = refl;
  side_by_side = refl;
}
