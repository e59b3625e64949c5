-- The depths that a pass tells.
use Rattle.std.specs.Prelude.{◌≡◌, ◌<◌, ◌≤◌, ℕ, ℤ, pos, ◌+ℤ◌, ◌≤ℤ◌, Bool, true, false, List, slice_index, slice_index_or, length}
use Rattle.sp_graph.specs.Depths.{HasDepth, depth_along}
use Rattle.sp_graph.specs.Least.{WalkTo}
use Rattle.sp_graph.specs.declared.graph.Node.{Node}
use Rattle.sp_prog.specs.declared.routine.Stmt.{Stmt}

-- the number at a place
abbrev pub depth_at : List ℤ → ℕ → ℤ
depth_at depths at = slice_index_or depths at (pos 0)

abbrev pub is_seen : List Bool → ℕ → Bool
is_seen seen at = slice_index_or seen at false

-- each instruction that is reached is seen and has its depth told, and no other one is seen
pub record TellsDepths (graph : List Node) (code : List Stmt) (seen : List Bool) (depths : List ℤ) : Type 0 where
  pub size : length depths ≡ length code
  pub marks : length seen ≡ length code
  pub some : (at : ℕ) → is_seen seen at ≡ true → HasDepth graph code at (depth_at depths at)
  pub none : (at : ℕ) → is_seen seen at ≡ false → (places : List ℕ) → WalkTo graph places at → ⊥
  pub small :
      (at : ℕ) → is_seen seen at ≡ true → (pos 0 ≤ℤ (depth_at depths at +ℤ pos 131072)) × (depth_at depths at ≤ℤ pos 131072)

-- the first places of the order of least walks have their depths
pub record TellsFirst (graph : List Node) (code : List Stmt) (chain : ℕ → List ℕ) (order : List ℕ) (depths : List ℤ) (next : ℕ) : Type 0 where
  pub size : length depths ≡ length graph
  pub some : 0 < next
  pub within : next ≤ length order
  pub placed : (k : ℕ) → k < next → depth_at depths (slice_index order k) ≡ depth_along code (chain k)
