-- A place of a pool for a tree that may be absent.
use Rattle.std.specs.Prelude.{⊤, List, Option, Some, None}
use Rattle.sp_term.specs.Tree.{Tree}
use Rattle.sp_term.specs.Pools.{IsPlace}
use Rattle.sp_term.specs.declared.shape.Node.{Node}

-- the place of the tree, or none for none
abbrev pub IsPlaceOf : List Tree → Option Tree → Option Node → Type 0
IsPlaceOf ts (Some t) (Some n) = IsPlace ts t n.0
IsPlaceOf ts (Some t) None = ⊥
IsPlaceOf ts None (Some n) = ⊥
IsPlaceOf ts None None = ⊤
