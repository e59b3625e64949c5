use Rattle.std.proofs.Common.{refl}
use Rattle.sp_simp.specs.Same.{tree_eq}
use Rattle.sp_linear.proofs.examples.sizes_and_counts_by_example.Goals as goal

pub returns-clause-literal : goal.returns-clause-literal
unfolding tree_eq
returns-clause-literal c = (refl, refl, refl)

pub returns-clause-sum : goal.returns-clause-sum
unfolding tree_eq
returns-clause-sum c = (refl, refl)

pub returns-clause-difference : goal.returns-clause-difference
unfolding tree_eq
returns-clause-difference c = (refl, refl)

pub returns-clause-product : goal.returns-clause-product
unfolding tree_eq
returns-clause-product c = (refl, refl, refl, refl)

pub returns-clause-atom : goal.returns-clause-atom
unfolding tree_eq
returns-clause-atom c = (refl, refl)
