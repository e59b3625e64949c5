-- The test of two trees passes exactly where they are one.
use Rattle.sp_simp.specs.Same.{tree_eq, tree_one, tree_same}
use Rattle.sp_linear.proofs.ProductLemmas.{AreTold}

pub trees_told : AreTold tree_eq
trees_told x y = (tree_one x y, tree_same x y)
