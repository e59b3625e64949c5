-- The order in which a search by levels comes to the instructions, and at which place in it each was first seen.
use Rattle.std.specs.Prelude.{◌≡◌, ℕ, ◌+◌, ◌<◌, ◌≤◌, ◌⊎◌, Bool, true, false, List, Option, Some, slice_index, slice_index_or, length, cond}
use Rattle.std.specs.List.{sum_by}
use Rattle.sp_graph.specs.Least.{Successor}
use Rattle.sp_graph.specs.declared.graph.Node.{Node}

-- an instruction stands in the order, and was first seen from one of the first places
abbrev pub Found : List ℕ → List ℕ → ℕ → ℕ → Type 0
Found order up to i = (k : ℕ) × (k < length order) × (slice_index order k ≡ to) × ((k ≡ 0) ⊎ (slice_index up k ≤ i))

-- what holds while the successors of the instruction at `head` are seen
pub record Grown (graph : List Node) (seen : List Bool) (order up : List ℕ) (head : ℕ) : Type 0 where
  pub size : length up ≡ length order
  pub marks : length seen ≡ length graph
  pub starts : slice_index order 0 ≡ 0
  pub some : 0 < length order
  pub listed : (v : ℕ) → slice_index_or seen v false ≡ true → (k : ℕ) × (k < length order) × (slice_index order k ≡ v)
  pub marked : (k : ℕ) → k < length order → slice_index_or seen (slice_index order k) false ≡ true
  pub parent : (k : ℕ) → 0 < k → k < length order → (slice_index up k < k) × Successor graph (slice_index order (slice_index up k)) (slice_index order k)
  pub upto : (k : ℕ) → k < length order → slice_index up k ≤ head
  pub once : (j k : ℕ) → j < k → k < length order → slice_index order j ≡ slice_index order k → ⊥
  pub rising :
      (j k : ℕ) → 0 < j → j < k → k < length order →
      (slice_index up j < slice_index up k) ⊎ ((slice_index up j ≡ slice_index up k) × (slice_index order j < slice_index order k))

-- all successors of the first instructions are found
abbrev pub Closed : List Node → List ℕ → List ℕ → ℕ → Type 0
Closed graph order up head = (i to : ℕ) → i < head → Successor graph (slice_index order i) to → Found order up to i

-- those first seen from `head` are not higher
abbrev pub BelowAll : List ℕ → List ℕ → ℕ → ℕ → Type 0
BelowAll order up head to = (j : ℕ) → 0 < j → j < length order → slice_index up j ≡ head → slice_index order j ≤ to

-- how many instructions are not seen
abbrev pub unseen : List Bool → ℕ
unseen seen = sum_by (λ b. cond b 0 1) seen

-- a successor of the instruction at `head`, if there is one, is seen
pub record Saw (graph : List Node) (head : ℕ) (to : Option ℕ) (seen : List Bool) (order up : List ℕ) (next_seen : List Bool) (next_order next_up : List ℕ) : Type 0 where
  pub grown : Grown graph next_seen next_order next_up head
  pub found : (t : ℕ) → to ≡ Some t → Found next_order next_up t head
  pub kept :
      (k : ℕ) → k < length order →
      (k < length next_order) × (slice_index next_order k ≡ slice_index order k) × (slice_index next_up k ≡ slice_index up k)
  pub added : (k : ℕ) → length order ≤ k → k < length next_order → to ≡ Some (slice_index next_order k)
  pub fewer : length next_order + unseen next_seen ≡ length order + unseen seen

-- what holds before each level
pub record Level (graph : List Node) (seen : List Bool) (order up : List ℕ) (head : ℕ) : Type 0 where
  pub grown : Grown graph seen order up head
  pub fresh : (k : ℕ) → 0 < k → k < length order → slice_index up k < head
  pub closed : Closed graph order up head
  pub within : head ≤ length order
