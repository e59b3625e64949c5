use Rattle.std.proofs.Common.{refl}
use Rattle.sp_simp.specs.Same.{tree_eq}
use Rattle.sp_steps.proofs.laws.logic_by_example.Goals as goal

pub returns-clause-followed : goal.returns-clause-followed
unfolding tree_eq
returns-clause-followed c = λ g. refl

pub returns-clause-other_premise : goal.returns-clause-other_premise
unfolding tree_eq
returns-clause-other_premise c = λ g. refl
