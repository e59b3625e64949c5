-- The first instructions of a graph, after a copy of the highest of them, without ways to assertions.
use Rattle.std.specs.Prelude.{◌+◌, ℕ, zero, suc, Bool, true, false, not, ◌&&◌, nat_lt, List, [], ◌∷◌, ◌++◌, Option, None, Some, slice_get, if◌then◌else◌}
use Rattle.sp_graph.specs.Graph.{asserted_in, branch_in, way}
use Rattle.sp_graph.specs.declared.graph.Node.{Node}

-- the place after that of an instruction without an assertion, up to the highest
abbrev pub shifted : List Node → ℕ → Option ℕ → Option ℕ
shifted graph highest None = None
shifted graph highest (Some to) = if nat_lt to (highest + 1) && not (asserted_in (slice_get graph to)) then Some (to + 1) else None

abbrev pub way_of : List Node → ℕ → ℕ → Bool → Option ℕ
way_of graph highest at taken = shifted graph highest (way (branch_in (slice_get graph at) taken))

abbrev pub turned_node : List Node → ℕ → ℕ → Node
turned_node graph highest at = record {
  asserted = false;
  access = false;
  untaken = Some (record { end = None; to = way_of graph highest at false });
  taken = Some (record { end = None; to = way_of graph highest at true });
}

-- the copy of the highest, and the first instructions
unfoldable pub turned : List Node → ℕ → ℕ → List Node
turned graph highest zero = turned_node graph highest highest ∷ []
turned graph highest (suc count) = turned graph highest count ++ turned_node graph highest count ∷ []
