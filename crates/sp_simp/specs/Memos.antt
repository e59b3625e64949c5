-- A memo of simple forms over a pool (this project's own).
use Rattle.std.specs.Prelude.{ℕ, ◌<◌, ◌≡◌, List, length, Some}
use Rattle.std.specs.Ordering.{nat_cmp}
use Rattle.std.specs.FinMap as maps
use Rattle.sp_term.specs.Tree.{Tree}
use Rattle.sp_term.specs.Pools.{tree_at}
use Rattle.sp_simp.specs.Simple.{IsSimpleForm}

-- from places to places
abbrev pub Forms : Type 0
Forms = maps.FinMap nat_cmp ℕ

-- r is the place of the simple form of the tree at n
pub record IsRight (ts : List Tree) (n r : ℕ) : Type 0 where
  pub from : n < length ts
  pub to : r < length ts
  pub form : IsSimpleForm (tree_at ts n) (tree_at ts r)

-- each entry is right
pub record AreRight (ts : List Tree) (m : Forms) : Type 0 where
  pub right : (n r : ℕ) → maps.get m n ≡ Some r → IsRight ts n r

-- the simple form of t stands at the place n
pub record IsSimpleAt (t : Tree) (ts : List Tree) (n : ℕ) : Type 0 where
  pub within : n < length ts
  pub form : IsSimpleForm t (tree_at ts n)
