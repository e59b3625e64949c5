-- Tests of trees as truth values.
use Rattle.std.proofs.Common.{◌≡◌, refl, sym, Bool, true, false}
use Rattle.std.specs.Prelude.{◌↔◌, IsTrue}
use Rattle.sp_term.specs.Tree.{Tree}
use Rattle.sp_simp.specs.Same.{tree_eq, tree_one, tree_same}

-- a test that passes exactly where two trees are one is the test of trees
pub decided : (x y : Tree) (b : Bool) → (IsTrue b ↔ (x ≡ y)) → b ≡ tree_eq x y
decided x y true h = sym (tree_same x y (h.0 refl))
decided x y false h = by (tree_eq x y) refl
  where
    by : (b : Bool) → tree_eq x y ≡ b → false ≡ b
    by false e = refl
    by true e = h.1 (tree_one x y e)
