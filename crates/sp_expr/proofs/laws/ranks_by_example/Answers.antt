use Rattle.std.proofs.Common.{arith, rules}
use Rattle.sp_expr.proofs.laws.ranks_by_example.Goals as goal

pub returns : goal.returns
returns c = record {
  products = search rules;
  sums = search rules;
  alternatives = search rules;
  from_right = λ h. omega arith;
  product_in_sum = search rules;
  sum_in_product = λ h. omega arith;
  parenthesis_in_product = search rules;
  not_of_sum = search rules;
  not_of_not = search rules;
  not_in_sum = λ h. omega arith;
  not_in_and = search rules;
  and_in_not = λ h. omega arith;
  and_in_or = search rules;
  and_in_xor = search rules;
  or_in_and = λ h. omega arith;
  xor_in_and = λ h. omega arith;
}
