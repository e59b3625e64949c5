use Rattle.std.proofs.Common.{arith}
use Rattle.sp_expr.proofs.laws.limit_by_example.Goals as goal

pub returns : goal.returns
returns c = record {
  within = omega arith;
  over = omega arith;
}
