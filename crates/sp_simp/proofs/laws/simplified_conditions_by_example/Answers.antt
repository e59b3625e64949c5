use Rattle.std.proofs.Common.{refl}
use Rattle.sp_simp.specs.Same.{tree_eq}
use Rattle.sp_simp.specs.Simplified.{all_conjuncts, stands_in, fresh}
use Rattle.sp_simp.proofs.laws.simplified_conditions_by_example.Goals as goal

pub returns : goal.returns
unfolding tree_eq all_conjuncts stands_in fresh
returns c = record {
  split = λ x y. refl;
  repeated = refl;
  known = refl;
  absurd_hypothesis = λ p. refl;
  true_hypothesis = refl;
}
