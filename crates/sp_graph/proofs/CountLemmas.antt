-- One pass in an order with successors first counts the walks.
use Rattle.std.proofs.Common.{◌≡◌, ◌<◌, ℕ, zero, suc, ◌+◌, Bool, true, false, List, [], ◌∷◌, ◌++◌, Option, None, Some, slice_get, length, refl, arith, length-append, get_or, set, get_or-set_same, get_or-set_other, below_more, ◌≢◌, if◌then◌else◌}
use Rattle.sp_graph.specs.Graph.{InGraph, asserted_in, branch_in, way, access_of}
use Rattle.sp_graph.specs.Walks.{beyond, branching, ending, ends, walks_on, walks_from}
use Rattle.sp_graph.specs.Cycles.{SuccessorsFirst}
use Rattle.sp_graph.specs.code.Counts.{at_most, ends_count, way_count, branch_count, node_count, Counted}
use Rattle.sp_graph.specs.declared.graph.Branch.{Branch}
use Rattle.sp_graph.specs.declared.graph.End.{End}
use Rattle.sp_graph.specs.declared.graph.End.TheVariants.{Assert}
use Rattle.sp_graph.specs.declared.graph.Node.{Node}
use Rattle.sp_graph.specs.declared.walk.Step.{Step}
use Rattle.sp_graph.specs.declared.walk.Walk.{Walk}

ending_count : (from : Option ℕ) (steps : List Step) (at : ℕ) (end : Option End) → length (ending from steps at end) ≡ ends_count end
ending_count from steps at None = refl
ending_count from steps at (Some end) = refl

sums : (a b c : ℕ) → at_most b ≡ c → at_most (a + b) ≡ at_most (a + c)
sums a b c e = omega arith

sums_both : (a b c d : ℕ) → at_most a ≡ c → at_most b ≡ d → at_most (a + b) ≡ at_most (c + d)
sums_both a b c d e f = omega arith

three_lists :
    (a b c : List Walk) (m x y : ℕ) → length a ≡ m → at_most (length b) ≡ x → at_most (length c) ≡ y →
    at_most (length (a ++ (b ++ c))) ≡ at_most (m + at_most (x + y))
three_lists a b c m x y e f g = omega (arith, length-append a (b ++ c), length-append b c)

module _ (graph : List Node) (counts : List ℕ) (from : Option ℕ) (onward : List Step → ℕ → List Walk) where
  coming_count :
      (steps : List Step) (to : ℕ) (b : Bool) → (b ≡ false → at_most (length (onward steps to)) ≡ get_or counts to 0) →
      at_most (length {A = Walk} (if b then ends from steps Assert to ∷ [] else onward steps to)) ≡ (if b then 1 else get_or counts to 0)
  coming_count steps to true e = refl
  coming_count steps to false e = e refl

  beyond_count :
      (steps : List Step) (way : Option ℕ) →
      ((to : ℕ) → way ≡ Some to → asserted_in (slice_get graph to) ≡ false → at_most (length (onward steps to)) ≡ get_or counts to 0) →
      at_most (length (beyond graph from onward steps way)) ≡ way_count graph counts way
  beyond_count steps None e = refl
  beyond_count steps (Some to) e = coming_count steps to (asserted_in (slice_get graph to)) (e to refl)

  branching_count :
      (steps : List Step) (step : Step) (branch : Option Branch) →
      ((to : ℕ) (after : List Step) → way branch ≡ Some to → asserted_in (slice_get graph to) ≡ false → at_most (length (onward after to)) ≡ get_or counts to 0) →
      at_most (length (branching graph from onward steps step branch)) ≡ branch_count graph counts branch
  branching_count steps step None e = refl
  branching_count steps step (Some branch) e =
      rw (length-append (ending from steps step.at branch.end), ending_count from steps step.at branch.end)
      (sums (ends_count branch.end) (length (beyond graph from onward (steps ++ step ∷ []) branch.to)) (way_count graph counts branch.to)
      (beyond_count (steps ++ step ∷ []) branch.to (λ to w a. e to (steps ++ step ∷ []) w a)))

module _ (graph : List Node) (order counts : List ℕ) (sorted : SuccessorsFirst graph (length graph) order) (whole : InGraph graph) where
  pub node_counted :
      (i : ℕ) → i < length order → Counted graph order counts i → (from : Option ℕ) (steps : List Step) (room : ℕ) → i < room →
      at_most (length (walks_on graph from room steps (get_or order i 0))) ≡ node_count graph counts (get_or order i 0)
  unfolding walks_on node_count
  node_counted i l c from steps zero h = absurd (omega arith)
  node_counted i l c from steps (suc room) h =
      let at = get_or order i 0 in
      let by = λ (taken : Bool). branching_count graph counts from (walks_on graph from room) steps (record { at = at; taken = taken }) (branch_in (slice_get graph at) taken)
      (λ to after w a. let f = sorted.first i taken to l ((w, a), whole at taken to w) in
      rw (← f.2) (c f.0 f.1 from after room (omega arith))) in
      three_lists (ending from steps at (access_of (slice_get graph at)))
      (branching graph from (walks_on graph from room) steps (record { at = at; taken = false }) (branch_in (slice_get graph at) false))
      (branching graph from (walks_on graph from room) steps (record { at = at; taken = true }) (branch_in (slice_get graph at) true))
      (ends_count (access_of (slice_get graph at))) (branch_count graph counts (branch_in (slice_get graph at) false))
      (branch_count graph counts (branch_in (slice_get graph at) true))
      (ending_count from steps at (access_of (slice_get graph at))) (by false) (by true)

  pub counted_more :
      (i : ℕ) → i < length order → length counts ≡ length graph → Counted graph order counts i →
      Counted graph order (set counts (get_or order i 0) (node_count graph counts (get_or order i 0))) (i + 1)
  counted_more i l n c =
      let at = get_or order i 0 in
      let inside : at < length counts = let r = sorted.below i l in omega arith in
      below_more
      (λ k. (from : Option ℕ) (steps : List Step) (room : ℕ) → k < room →
      at_most (length (walks_on graph from room steps (get_or order k 0))) ≡ get_or (set counts at (node_count graph counts at)) (get_or order k 0) 0)
      i
      (λ k h from steps room r.
      let other : get_or order k 0 ≢ at = sorted.once k i h l in
      rw (get_or-set_other counts at (get_or order k 0) (node_count graph counts at) 0 other) (c k h from steps room r))
      (λ from steps room r.
      rw (get_or-set_same counts at (node_count graph counts at) 0 inside) (node_counted i l c from steps room r))

  pub counted_at :
      Counted graph order counts (length order) → (at : ℕ) → at < length graph → (from : Option ℕ) →
      at_most (length (walks_on graph from (length graph) [] at)) ≡ get_or counts at 0
  counted_at c at l from =
      let k = sorted.every at l in
      let size = sorted.size in
      let m : k.0 < length order = k.1 in
      rw k.2 at (c k.0 k.1 from [] (length graph) (omega arith))

  pub counted_entry :
      Counted graph order counts (length order) → 0 < length graph → at_most (length (walks_from graph None)) ≡ way_count graph counts (Some 0)
  counted_entry c some =
      coming_count graph counts None (walks_on graph None (length graph)) [] 0 (asserted_in (slice_get graph 0)) (λ a. counted_at c 0 some None)
