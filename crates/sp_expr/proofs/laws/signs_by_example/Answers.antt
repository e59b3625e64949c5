use Rattle.std.proofs.Common.{arith, rules}
use Rattle.sp_expr.proofs.laws.signs_by_example.Goals as goal

pub returns : goal.returns
returns c = record {
  plus = search rules;
  minus = search rules;
  times = λ h. omega arith;
  of_product = search rules;
  of_sum = λ h. omega arith;
  before_sum = search rules;
  after_operator = λ h. omega arith;
  after_times = λ h. omega arith;
  after_not = search rules;
  twice = λ h. omega arith;
}
