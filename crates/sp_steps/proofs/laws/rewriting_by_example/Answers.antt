use Rattle.std.proofs.Common.{refl}
use Rattle.sp_simp.specs.Same.{tree_eq}
use Rattle.sp_steps.proofs.laws.rewriting_by_example.Goals as goal

pub returns : goal.returns
unfolding tree_eq
returns c = record { outermost = refl; once = refl; stands = refl; stands_not = refl }
