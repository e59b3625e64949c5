-- How many walks go on, counted up to the greatest u64.
use Rattle.std.specs.Prelude.{◌≡◌, ℕ, ◌+◌, ◌-◌, ◌^◌, ◌<◌, min, false, true, List, Option, None, Some, slice_get, slice_index, length, if◌then◌else◌}
use Rattle.sp_graph.specs.Graph.{asserted_in, branch_in, access_of}
use Rattle.sp_graph.specs.Walks.{walks_on}
use Rattle.sp_graph.specs.declared.graph.Branch.{Branch}
use Rattle.sp_graph.specs.declared.graph.End.{End}
use Rattle.sp_graph.specs.declared.graph.Node.{Node}
use Rattle.sp_graph.specs.declared.walk.Step.{Step}

abbrev pub at_most : ℕ → ℕ
at_most n = min n (2 ^ 64 - 1)

abbrev pub ends_count : Option End → ℕ
ends_count None = 0
ends_count (Some end) = 1

abbrev pub way_count : List Node → List ℕ → Option ℕ → ℕ
way_count graph counts None = 0
way_count graph counts (Some to) = if asserted_in (slice_get graph to) then 1 else slice_index counts to

abbrev pub branch_count : List Node → List ℕ → Option Branch → ℕ
branch_count graph counts None = 0
branch_count graph counts (Some branch) = at_most (ends_count branch.end + way_count graph counts branch.to)

-- the count at an instruction, from those at its successors
unfoldable pub node_count : List Node → List ℕ → ℕ → ℕ
node_count graph counts at =
    at_most (ends_count (access_of (slice_get graph at))
    + at_most (branch_count graph counts (branch_in (slice_get graph at) false) + branch_count graph counts (branch_in (slice_get graph at) true)))

-- the counts of the first instructions of an order are those of their walks
abbrev pub Counted : List Node → List ℕ → List ℕ → ℕ → Type 0
Counted graph order counts i =
    (k : ℕ) → k < i → (from : Option ℕ) (steps : List Step) (room : ℕ) → k < room →
    at_most (length (walks_on graph from room steps (slice_index order k))) ≡ slice_index counts (slice_index order k)
