use Rattle.std.proofs.Common.{refl}
use Rattle.sp_simp.specs.Same.{tree_eq}
use Rattle.sp_linear.proofs.examples.polynomials_by_example.Goals as goal

pub returns-clause-square : goal.returns-clause-square
unfolding tree_eq
returns-clause-square c = (refl, refl, refl, refl, refl)

pub returns-clause-difference : goal.returns-clause-difference
unfolding tree_eq
returns-clause-difference c = (refl, refl, refl)

pub returns-clause-numbers : goal.returns-clause-numbers
unfolding tree_eq
returns-clause-numbers c = (refl, refl)

pub returns-clause-atom : goal.returns-clause-atom
unfolding tree_eq
returns-clause-atom c = (refl, refl)
