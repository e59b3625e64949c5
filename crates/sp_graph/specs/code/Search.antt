-- What the search for the next walk still has before it.
use Rattle.std.specs.Prelude.{◌≡◌, ℕ, zero, suc, ◌+◌, ◌-◌, ◌<◌, true, false, List, [], ◌∷◌, ◌++◌, Option, None, Some, slice_get, length, if◌then◌else◌}
use Rattle.sp_graph.specs.Graph.{asserted_in, branch_in, way}
use Rattle.sp_graph.specs.Walks.{coming, beyond, branching, walks_on, walks_after, Inside, NoLongWalk}
use Rattle.sp_graph.specs.declared.graph.Node.{Node}
use Rattle.sp_graph.specs.declared.walk.Step.{Step}
use Rattle.sp_graph.specs.declared.walk.Walk.{Walk}
use Rattle.sp_graph.specs.declared.search.Place.{Place}
use Rattle.sp_graph.specs.declared.search.Place.TheVariants.{Coming, On, By, Past, Back}

-- the walks by the branch taken at a step where it was not taken yet
abbrev pub other : List Node → Option ℕ → ℕ → List Step → Step → List Walk
other graph from room steps step =
    if step.taken then [] else
    branching graph from (walks_on graph from room) steps (record { at = step.at; taken = true }) (branch_in (slice_get graph step.at) true)

-- the walks that the steps so far have left, `before` being those that stand before them
unfoldable pub left : List Node → Option ℕ → ℕ → List Step → List Step → List Walk
left graph from room before [] = []
left graph from room before (step ∷ steps) =
    left graph from (room - 1) (before ++ step ∷ []) steps ++ other graph from (room - 1) before step

-- the walks that are still to come at a place, before those that the steps have left
abbrev pub at_place : List Node → Option ℕ → ℕ → List Step → Place → List Walk
at_place graph from room steps (Coming at) = coming graph from (walks_on graph from (suc room)) steps at
at_place graph from room steps (On at) = walks_on graph from (suc room) steps at
at_place graph from room steps (By step) =
    branching graph from (walks_on graph from room) steps step (branch_in (slice_get graph step.at) step.taken)
    ++ other graph from room steps step
at_place graph from room steps (Past step) =
    beyond graph from (walks_on graph from room) (steps ++ step ∷ []) (way (branch_in (slice_get graph step.at) step.taken))
    ++ other graph from room steps step
at_place graph from room steps Back = []

-- all walks still to come
unfoldable pub coming_walks : List Node → Option ℕ → List Step → Place → List Walk
coming_walks graph from steps place =
    at_place graph from (length graph - suc (length steps)) steps place ++ left graph from (length graph) [] steps

-- each step was made inside
unfoldable pub Trail : List Node → Option ℕ → List Step → List Step → Type 0
Trail graph from before [] = Unit {0}
Trail graph from before (step ∷ steps) = Inside graph from before step.at × Trail graph from (before ++ step ∷ []) steps

-- a place that a walk from the cut point has come to
abbrev pub Reached : List Node → Option ℕ → List Step → Place → Type 0
Reached graph from steps (Coming at) = asserted_in (slice_get graph at) ≡ false → Inside graph from steps at
Reached graph from steps (On at) = Inside graph from steps at
Reached graph from steps (By step) = Inside graph from steps step.at
Reached graph from steps (Past step) = Inside graph from steps step.at
Reached graph from steps Back = Unit {0}

-- what holds of the search between moves
pub record Ready (graph : List Node) (from : Option ℕ) (steps : List Step) (place : Place) : Type 0 where
  pub short : NoLongWalk graph from
  pub trail : Trail graph from [] steps
  pub reached : Reached graph from steps place

-- how many moves at most bring the search back from an instruction that it comes to
unfoldable pub moves : ℕ → ℕ
moves zero = 1
moves (suc room) = 8 + moves room + moves room

unfoldable pub moves_left : ℕ → List Step → ℕ
moves_left room [] = 0
moves_left room (step ∷ steps) = (if step.taken then 1 else 4 + moves (room - 1)) + moves_left (room - 1) steps

abbrev pub moves_at : ℕ → ℕ → Place → ℕ
moves_at here room (Coming at) = moves here
moves_at here room (On at) = 7 + moves room + moves room
moves_at here room (By step) = if step.taken then 3 + moves room else 6 + moves room + moves room
moves_at here room (Past step) = if step.taken then 2 + moves room else 5 + moves room + moves room
moves_at here room Back = 0

-- how many moves are left at most
unfoldable pub all_moves : List Node → List Step → Place → ℕ
all_moves graph steps place =
    moves_at (length graph - length steps) (length graph - suc (length steps)) place + moves_left (length graph) steps

-- the walk that a move gives, if it gives one
abbrev pub found : Option Walk → List Walk
found None = []
found (Some walk) = walk ∷ []

-- A move of the search: what it gives and what is still to come are what was to come, and fewer moves are left.
pub record IsMove (graph : List Node) (from : Option ℕ) (steps : List Step) (place : Place) (next_steps : List Step) (next_place : Place) (walks : List Walk) : Type 0 where
  pub same : coming_walks graph from steps place ≡ walks ++ coming_walks graph from next_steps next_place
  pub trail : Trail graph from [] next_steps
  pub reached : Reached graph from next_steps next_place
  pub fewer : all_moves graph next_steps next_place < all_moves graph steps place

-- the place after all walks by a step's branch
abbrev pub turned : Step → Place
turned step = if step.taken then Back else By (record { at = step.at; taken = true })

-- walks were given, and the search can go on
pub record Goes (graph : List Node) (from : Option ℕ) (before given : List Walk) (steps : List Step) (place : Place) : Type 0 where
  pub same : before ≡ given ++ coming_walks graph from steps place
  pub ready : Ready graph from steps place

-- the walks still to come, those from the assertions from `rest` on among them
unfoldable pub still_to_come : List Node → Option ℕ → List Step → Place → ℕ → List Walk
still_to_come graph from steps place rest = coming_walks graph from steps place ++ walks_after graph rest
