use Rattle.std.proofs.Common.{refl}
use Rattle.sp_simp.specs.Same.{tree_eq}
use Rattle.sp_linear.proofs.ExampleLemmas.{yes, no}
use Rattle.sp_linear.proofs.examples.signs_are_kept.Goals as goal

pub returns-clause-equation : goal.returns-clause-equation
unfolding tree_eq
returns-clause-equation c = yes _ _ _ refl

pub returns-clause-comparison : goal.returns-clause-comparison
unfolding tree_eq
returns-clause-comparison c = no _ _ _ refl

pub returns-clause-goal : goal.returns-clause-goal
unfolding tree_eq
returns-clause-goal c = no _ _ _ refl
