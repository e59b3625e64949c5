use Rattle.std.proofs.Common.{refl}
use Rattle.sp_simp.specs.Same.{tree_eq}
use Rattle.sp_linear.proofs.ExampleLemmas.{yes, no}
use Rattle.sp_linear.proofs.examples.equations_follow.Goals as goal

pub returns-clause-times : goal.returns-clause-times
unfolding tree_eq
returns-clause-times c = (yes _ _ _ refl, no _ _ _ refl)

pub returns-clause-turned : goal.returns-clause-turned
unfolding tree_eq
returns-clause-turned c = (yes _ _ _ refl, no _ _ _ refl)

pub returns-clause-comparison : goal.returns-clause-comparison
unfolding tree_eq
returns-clause-comparison c = no _ _ _ refl

pub returns-clause-itself : goal.returns-clause-itself
unfolding tree_eq
returns-clause-itself c = (yes _ _ _ refl, no _ _ _ refl)

pub returns-clause-disequation : goal.returns-clause-disequation
unfolding tree_eq
returns-clause-disequation c = no _ _ _ refl
