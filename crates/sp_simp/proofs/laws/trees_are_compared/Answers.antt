use Rattle.sp_simp.specs.Same.{tree_one, tree_same}
use Rattle.sp_simp.proofs.laws.trees_are_compared.Goals as goal

pub returns : goal.returns
returns c x y = (tree_one x y, tree_same x y)
