-- Where successors stand first, no walk is long.
use Rattle.std.proofs.Common.{◌≡◌, ◌<◌, ℕ, ◌+◌, Bool, true, List, [], ◌∷◌, Option, None, Some, slice_get, length, refl, sym, ◌∙◌, arith, length-append, get_or, inl, inr}
use Rattle.std.proofs.lemmas.Bool.{cases_order}
use Rattle.std.proofs.lemmas.Option.{slice_get_within}
use Rattle.sp_graph.specs.Graph.{InGraph, asserted_in, branch_in, way}
use Rattle.sp_graph.specs.Walks.{Inside, NoLongWalk}
use Rattle.sp_graph.specs.Walks.Inside.{entry, assertion, onward}
use Rattle.sp_graph.specs.Cycles.{SuccessorsFirst, Leads}
use Rattle.sp_graph.specs.declared.graph.Node.{Node}
use Rattle.sp_graph.specs.declared.walk.Step.{Step}

same_place : (order : List ℕ) → ((j k : ℕ) → j < k → k < length order → get_or order j 0 ≡ get_or order k 0 → ⊥) →
    (j k : ℕ) → j < length order → k < length order → get_or order j 0 ≡ get_or order k 0 → j ≡ k
same_place order once j k l m e =
    elim (cases_order j k) as (λ o. j ≡ k) [ inl same ↦ same | inr o ↦ elim o [ inl a ↦ absurd (once j k a m e) | inr b ↦ absurd (once k j b l (sym e)) ] ]

within_option : (graph : List Node) (at : ℕ) (taken : Bool) (to : ℕ) (o : Option Node) → slice_get graph at ≡ o → way (branch_in o taken) ≡ Some to → at < length graph
within_option graph at taken to None e w = cc
within_option graph at taken to (Some node) e w = slice_get_within graph at node e

within : (graph : List Node) (at : ℕ) (taken : Bool) (to : ℕ) → way (branch_in (slice_get graph at) taken) ≡ Some to → at < length graph
within graph at taken to w = within_option graph at taken to (slice_get graph at) refl w

module _ (graph : List Node) (order : List ℕ) (sorted : SuccessorsFirst graph (length graph) order) (from : Option ℕ) (whole : InGraph graph) where
  -- a walk has come past at most the instructions behind its place in the order
  behind :
      (steps : List Step) (at : ℕ) → Inside graph from steps at → (k : ℕ) → k < length order → get_or order k 0 ≡ at →
      length steps + k < length order
  behind _ _ (entry f a) k l e = omega arith
  behind _ _ (assertion at f) k l e = omega arith
  behind _ _ (onward steps step to i w a) k l e =
      let at = sorted.every step.at (within graph step.at step.taken to w) in
      let leads : Leads graph (get_or order at.0 0) step.taken to = rw at.2 (w, a) in
      let first = sorted.first at.0 step.taken to at.1 (leads, whole step.at step.taken to w) in
      let below : first.0 < at.0 = first.1 in
      let same : first.0 ≡ k = same_place order sorted.once first.0 k (omega arith) l (first.2 ∙ sym e) in
      let rest = behind steps step.at i at.0 at.1 at.2 in
      omega (arith, length-append steps (step ∷ []))

  place_inside : 0 < length graph → ((at : ℕ) → from ≡ Some at → at < length graph) → (steps : List Step) (at : ℕ) → Inside graph from steps at → at < length graph
  place_inside some cut _ _ (entry f a) = some
  place_inside some cut _ _ (assertion at f) = cut at f
  place_inside some cut _ _ (onward steps step to i w a) = whole step.at step.taken to w

  pub no_long_walk : 0 < length graph → ((at : ℕ) → from ≡ Some at → at < length graph) → NoLongWalk graph from
  no_long_walk some cut steps at i =
      let k = sorted.every at (place_inside some cut steps at i) in
      let b = behind steps at i k.0 k.1 k.2 in
      let size = sorted.size in
      omega arith

cut_option : (graph : List Node) (at : ℕ) (o : Option Node) → slice_get graph at ≡ o → asserted_in o ≡ true → at < length graph
cut_option graph at None e a = cc
cut_option graph at (Some node) e a = slice_get_within graph at node e

-- an instruction with an assertion is one of the graph
pub asserted_within : (graph : List Node) (at : ℕ) → asserted_in (slice_get graph at) ≡ true → at < length graph
asserted_within graph at a = cut_option graph at (slice_get graph at) refl a
