-- The walks of a routine in the order of its conditions.
use Rattle.std.specs.Prelude.{◌≡◌, ℕ, zero, suc, true, false, List, [], ◌∷◌, ◌++◌, Option, None, Some, slice_get, length, ◌<◌, ◌-◌, if◌then◌else◌}
use Rattle.std.specs.Prelude.{map}
use Rattle.std.specs.List.{filter, flat_map, range_with_len}
use Rattle.sp_graph.specs.Graph.{asserted_in, branch_in, way, access_of}
use Rattle.sp_graph.specs.declared.graph.Branch.{Branch}
use Rattle.sp_graph.specs.declared.graph.End.{End}
use Rattle.sp_graph.specs.declared.graph.End.TheVariants.{Assert}
use Rattle.sp_graph.specs.declared.graph.Node.{Node}
use Rattle.sp_graph.specs.declared.walk.Cut.{Cut}
use Rattle.sp_graph.specs.declared.walk.Cut.TheVariants.{Entry, At}
use Rattle.sp_graph.specs.declared.walk.Step.{Step}
use Rattle.sp_graph.specs.declared.walk.Walk.{Walk}

-- a walk from a cut point, the entry or an assertion, that ends at an instruction after some steps
abbrev pub ends : Option ℕ → List Step → End → ℕ → Walk
ends from steps end at = record { from = from; steps = steps; end = end; at = at }

-- one walk, where there is such an end
abbrev pub ending : Option ℕ → List Step → ℕ → Option End → List Walk
ending from steps at None = []
ending from steps at (Some end) = ends from steps end at ∷ []

-- the walks that come to an instruction: one ends at it where it has an assertion, and else all go on
abbrev pub coming : List Node → Option ℕ → (List Step → ℕ → List Walk) → List Step → ℕ → List Walk
coming graph from onward steps at =
    if asserted_in (slice_get graph at) then ends from steps Assert at ∷ [] else onward steps at

-- the walks that go on where a branch leads
abbrev pub beyond : List Node → Option ℕ → (List Step → ℕ → List Walk) → List Step → Option ℕ → List Walk
beyond graph from onward steps None = []
beyond graph from onward steps (Some to) = coming graph from onward steps to

-- the walks by a branch: one ends there where the branch has an end, and then come those that go on
abbrev pub branching : List Node → Option ℕ → (List Step → ℕ → List Walk) → List Step → Step → Option Branch → List Walk
branching graph from onward steps step None = []
branching graph from onward steps step (Some branch) =
    ending from steps step.at branch.end ++ beyond graph from onward (steps ++ step ∷ []) branch.to

-- The walks that go on at an instruction, of at most so many steps from there: one that ends at its access,
-- then those by the branch not taken, then those by the branch taken.
unfoldable pub walks_on : List Node → Option ℕ → ℕ → List Step → ℕ → List Walk
walks_on graph from zero steps at = []
walks_on graph from (suc room) steps at =
    ending from steps at (access_of (slice_get graph at))
    ++ (branching graph from (walks_on graph from room) steps (record { at = at; taken = false }) (branch_in (slice_get graph at) false)
    ++ branching graph from (walks_on graph from room) steps (record { at = at; taken = true }) (branch_in (slice_get graph at) true))

-- The walks from a cut point. None has more steps than the graph has instructions where no cycle is without an assertion.
abbrev pub walks_from : List Node → Option ℕ → List Walk
walks_from graph None = coming graph None (walks_on graph None (length graph)) [] 0
walks_from graph (Some at) = walks_on graph (Some at) (length graph) [] at

-- A walk from a cut point that is at an instruction, with no assertion since.
pub data Inside (graph : List Node) (from : Option ℕ) : List Step → ℕ → Type 0 where
  entry : from ≡ None → asserted_in (slice_get graph 0) ≡ false → Inside graph from [] 0
  assertion : (at : ℕ) → from ≡ Some at → Inside graph from [] at
  onward :
      (steps : List Step) (step : Step) (to : ℕ) →
      Inside graph from steps step.at →
      way (branch_in (slice_get graph step.at) step.taken) ≡ Some to →
      asserted_in (slice_get graph to) ≡ false →
      Inside graph from (steps ++ step ∷ []) to

-- no walk has more steps than the graph has instructions
abbrev pub NoLongWalk : List Node → Option ℕ → Type 0
NoLongWalk graph from = (steps : List Step) (at : ℕ) → Inside graph from steps at → length steps < length graph

-- A walk that ends at an access, a taken call, an assertion or a return, by itself: the end of one of the list.
pub data IsWalk (graph : List Node) (from : Option ℕ) : Walk → Type 0 where
  at_access :
      (steps : List Step) (at : ℕ) (end : End) → Inside graph from steps at → access_of (slice_get graph at) ≡ Some end →
      IsWalk graph from (ends from steps end at)
  on_branch :
      (steps : List Step) (step : Step) (branch : Branch) (end : End) → Inside graph from steps step.at →
      branch_in (slice_get graph step.at) step.taken ≡ Some branch → branch.end ≡ Some end →
      IsWalk graph from (ends from steps end step.at)
  to_assertion :
      (steps : List Step) (step : Step) (to : ℕ) → Inside graph from steps step.at →
      way (branch_in (slice_get graph step.at) step.taken) ≡ Some to → asserted_in (slice_get graph to) ≡ true →
      IsWalk graph from (ends from (steps ++ step ∷ []) Assert to)
  entry_asserted : from ≡ None → asserted_in (slice_get graph 0) ≡ true → IsWalk graph from (ends from [] Assert 0)

-- the asserted instructions from a place on, by rising address
abbrev pub assertions_from : List Node → ℕ → List ℕ
assertions_from graph first = filter (λ at. asserted_in (slice_get graph at)) (range_with_len first (length graph - first))

-- The cut points of a routine: its entry, and then each instruction with an assertion by rising address.
abbrev pub cuts : List Node → List (Option ℕ)
cuts graph = None ∷ map (λ at. Some at) (assertions_from graph 0)

-- a cut point as it is told
abbrev pub cut_of : Option ℕ → Cut
cut_of None = Entry
cut_of (Some at) = At at

-- a walk may start there: at the entry, or at an instruction with an assertion
abbrev pub IsCut : List Node → Option ℕ → Type 0
IsCut graph None = Unit {0}
IsCut graph (Some at) = asserted_in (slice_get graph at) ≡ true

-- the walks from the assertions from a place on
abbrev pub walks_after : List Node → ℕ → List Walk
walks_after graph first = flat_map (λ at. walks_from graph (Some at)) (assertions_from graph first)

-- The walks of a routine, one for each of its conditions, in order.
abbrev pub walks : List Node → List Walk
walks graph = flat_map (walks_from graph) (cuts graph)
