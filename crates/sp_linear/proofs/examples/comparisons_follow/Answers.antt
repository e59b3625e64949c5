use Rattle.std.proofs.Common.{refl}
use Rattle.sp_simp.specs.Same.{tree_eq}
use Rattle.sp_linear.proofs.ExampleLemmas.{yes, no}
use Rattle.sp_linear.proofs.examples.comparisons_follow.Goals as goal

pub returns-clause-once : goal.returns-clause-once
unfolding tree_eq
returns-clause-once c = yes _ _ _ refl

pub returns-clause-twice : goal.returns-clause-twice
unfolding tree_eq
returns-clause-twice c = yes _ _ _ refl

pub returns-clause-unequal : goal.returns-clause-unequal
unfolding tree_eq
returns-clause-unequal c = no _ _ _ refl

pub returns-clause-not_taken : goal.returns-clause-not_taken
unfolding tree_eq
returns-clause-not_taken c = no _ _ _ refl

pub returns-clause-too_strong : goal.returns-clause-too_strong
unfolding tree_eq
returns-clause-too_strong c = no _ _ _ refl

pub returns-clause-product : goal.returns-clause-product
unfolding tree_eq
returns-clause-product c = (yes _ _ _ refl, no _ _ _ refl)
