use Rattle.std.proofs.Common.{refl}
use Rattle.sp_simp.specs.Same.{tree_eq}
use Rattle.sp_linear.proofs.ExampleLemmas.{yes, no, is_small_yes, is_small_no}
use Rattle.sp_linear.proofs.examples.steps_have_limits.Goals as goal

pub returns-clause-size : goal.returns-clause-size
unfolding tree_eq
returns-clause-size c = (yes _ _ _ refl, no _ _ _ refl)

pub returns-clause-product : goal.returns-clause-product
unfolding tree_eq
returns-clause-product c = (yes _ _ _ refl, no _ _ _ refl)

pub returns-clause-count : goal.returns-clause-count
unfolding tree_eq
returns-clause-count c = (is_small_yes _ _ _ refl, is_small_no _ _ _ refl)
