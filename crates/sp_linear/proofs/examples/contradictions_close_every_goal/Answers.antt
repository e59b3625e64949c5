use Rattle.std.proofs.Common.{refl}
use Rattle.sp_simp.specs.Same.{tree_eq}
use Rattle.sp_linear.proofs.ExampleLemmas.{yes, no}
use Rattle.sp_linear.proofs.examples.contradictions_close_every_goal.Goals as goal

pub returns-clause-strict : goal.returns-clause-strict
unfolding tree_eq
returns-clause-strict c = yes _ _ _ refl

pub returns-clause-loose : goal.returns-clause-loose
unfolding tree_eq
returns-clause-loose c = no _ _ _ refl

pub returns-clause-no_comparison : goal.returns-clause-no_comparison
unfolding tree_eq
returns-clause-no_comparison c = no _ _ _ refl

pub returns-clause-equation : goal.returns-clause-equation
unfolding tree_eq
returns-clause-equation c = (yes _ _ _ refl, no _ _ _ refl)

pub returns-clause-negations : goal.returns-clause-negations
unfolding tree_eq
returns-clause-negations c = (yes _ _ _ refl, no _ _ _ refl)
