-- The entries of a pool's table.
use Rattle.std.specs.Prelude.{ℕ, ◌≡◌, List, map, slice_get, Some}
use Rattle.sp_term.specs.declared.shape.Shape.{Shape}
use Rattle.sp_term.specs.declared.pool.Entry.{Entry}
use Rattle.sp_term.specs.Tree.{Tree}
use Rattle.sp_term.specs.Intervals.{interval}
use Rattle.sp_term.specs.Pools.{shape_tree, IsBelow, IsDistinct}

abbrev pub trees_in : List (Shape × Entry) → List Tree
trees_in es = map (λ e. e.1.term.now) es

-- an entry at the place k is the node of its shape, with its interval
pub record IsMade (ts : List Tree) (k : ℕ) (s : Shape) (e : Entry) : Type 0 where
  pub below : IsBelow k s
  pub tree : e.term.now ≡ shape_tree ts s
  pub span : e.span ≡ interval e.term.now

pub record IsTable (es : List (Shape × Entry)) : Type 0 where
  pub made : (k : ℕ) (s : Shape) (e : Entry) → slice_get es k ≡ Some (s, e) → IsMade (trees_in es) k s e
  pub distinct : IsDistinct (trees_in es)
