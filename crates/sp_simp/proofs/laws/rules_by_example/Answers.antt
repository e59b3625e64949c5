use Rattle.std.proofs.Common.{refl}
use Rattle.sp_simp.specs.Same.{tree_eq}
use Rattle.sp_simp.specs.Rules.{rule, sum_rule, remainder_rule, comparison_rule, equality_rule}
use Rattle.sp_simp.proofs.laws.rules_by_example.Goals as goal

pub returns : goal.returns
unfolding rule sum_rule remainder_rule comparison_rule equality_rule tree_eq
returns c = record {
  sum = refl;
  sum_too_great = refl;
  small = refl;
  not_small = refl;
  parts = refl;
  parts_exchanged = λ k. refl;
  divisor = λ k. refl;
  no_divisor = λ k. refl;
  written_cell = λ m v. refl;
  other_offset = λ m v. refl;
  perhaps_same = λ m v. refl;
  right_side = λ k. refl;
  left_side = λ k. refl;
  first_number = λ x y. refl;
  second_number = λ x y. refl;
}
