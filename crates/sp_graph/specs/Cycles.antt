-- Cycles of instructions without assertions, and orders with successors first.
use Rattle.std.specs.Prelude.{◌≡◌, ℕ, ◌+◌, ◌<◌, ◌≤◌, Bool, false, List, slice_get, slice_index, length}
use Rattle.sp_graph.specs.Graph.{asserted_in, LeadsTo}
use Rattle.sp_graph.specs.declared.graph.Node.{Node}

-- a choice at an instruction leads to an instruction without an assertion
abbrev pub Leads : List Node → ℕ → Bool → ℕ → Type 0
Leads graph at taken to = LeadsTo graph at taken to × (asserted_in (slice_get graph to) ≡ false)

-- one of the first `limit` instructions, without an assertion, stands after this one
abbrev pub Edge : List Node → ℕ → ℕ → Bool → ℕ → Type 0
Edge graph limit at taken to = Leads graph at taken to × (to < limit)

-- one or more steps lead from an instruction to another, none at an assertion or at or above `limit`
pub data Reaches (graph : List Node) (limit : ℕ) : ℕ → ℕ → Type 0 where
  one : (at : ℕ) (taken : Bool) (to : ℕ) → at < limit → Edge graph limit at taken to → Reaches graph limit at to
  more : (from at : ℕ) (taken : Bool) (to : ℕ) → Reaches graph limit from at → Edge graph limit at taken to → Reaches graph limit from to

-- an instruction is the highest of some cycle without assertions
abbrev pub IsHighestOfCycle : List Node → ℕ → Type 0
IsHighestOfCycle graph at = Reaches graph (at + 1) at at

-- no cycle is without an assertion
abbrev pub HasNoCycle : List Node → Type 0
HasNoCycle graph = (at : ℕ) → Reaches graph (length graph) at at → ⊥

-- each of the first `limit` instructions stands in the order once, what it leads to without an assertion before it
pub record SuccessorsFirst (graph : List Node) (limit : ℕ) (order : List ℕ) : Type 0 where
  pub size : length order ≤ limit
  pub below : (k : ℕ) → k < length order → slice_index order k < limit
  pub once : (j k : ℕ) → j < k → k < length order → slice_index order j ≡ slice_index order k → ⊥
  pub first :
      (k : ℕ) (taken : Bool) (to : ℕ) → k < length order → Edge graph limit (slice_index order k) taken to →
      (j : ℕ) × (j < k) × (slice_index order j ≡ to)
  pub every : (at : ℕ) → at < limit → (k : ℕ) × (k < length order) × (slice_index order k ≡ at)
