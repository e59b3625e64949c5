-- What is true of the walks of a graph.
use Rattle.std.specs.Prelude.{◌≡◌, ◌<◌, ℕ, Bool, true, false, List, [], ◌∷◌, Option, None, Some, Contains, length}
use Rattle.sp_graph.specs.Cycles.{HasNoCycle}
use Rattle.sp_graph.specs.Graph.{InGraph}
use Rattle.sp_graph.specs.Walks.{IsCut, IsWalk, NoLongWalk, walks, walks_from}
use Rattle.sp_graph.specs.declared.graph.Branch.{Branch}
use Rattle.sp_graph.specs.declared.graph.End.{End}
use Rattle.sp_graph.specs.declared.graph.End.TheVariants as end
use Rattle.sp_graph.specs.declared.graph.Node.{Node}
use Rattle.sp_graph.specs.declared.walk.Step.{Step}
use Rattle.sp_graph.specs.declared.walk.Walk.{Walk}

-- a graph with an entry, which leads to its own instructions alone and has no cycle without an assertion
pub record IsCutGraph (graph : List Node) : Type 0 where
  pub some : 0 < length graph
  pub whole : InGraph graph
  pub cycles : HasNoCycle graph

-- the list of the walks from a cut point has exactly the walks, and none has as many steps as the graph has instructions
pub record WalksAreListed : Type 0 where
  pub every : (graph : List Node) (from : Option ℕ) (w : Walk) → IsCutGraph graph → IsCut graph from → IsWalk graph from w → Contains (walks_from graph from) w
  pub only : (graph : List Node) (from : Option ℕ) (w : Walk) → Contains (walks_from graph from) w → IsWalk graph from w
  pub short : (graph : List Node) (from : Option ℕ) → IsCutGraph graph → IsCut graph from → NoLongWalk graph from

-- ---- Examples

abbrev pub to_place : ℕ → Option Branch
to_place at = Some (record { end = None; to = Some at })

abbrev pub step : ℕ → Step
step at = record { at = at; taken = false }

abbrev pub step_taken : ℕ → Step
step_taken at = record { at = at; taken = true }

-- a return, with an assertion or not
abbrev pub return_node : Bool → Node
return_node asserted = record { asserted = asserted; access = false; untaken = Some (record { end = Some end.Return; to = None }); taken = None }

-- a jump to the next instruction where a condition holds, with an access or not, and then a return
abbrev pub fork : Bool → Bool → List Node
fork access asserted = record { asserted = false; access = access; untaken = to_place 1; taken = to_place 1 } ∷ return_node asserted ∷ []

abbrev pub walk : Option ℕ → List Step → End → ℕ → Walk
walk from steps e at = record { from = from; steps = steps; end = e; at = at }

-- the branch not taken comes first; an access comes before what goes on; an assertion ends walks, and others begin there,
-- and at an entry with an assertion one walk is empty
pub record WalksComeInOrder : Type 0 where
  pub plain : walks (fork false false) ≡ walk None (step 0 ∷ []) end.Return 1 ∷ walk None (step_taken 0 ∷ []) end.Return 1 ∷ []
  pub access : walks (fork true false)
      ≡ walk None [] end.Access 0 ∷ walk None (step 0 ∷ []) end.Return 1 ∷ walk None (step_taken 0 ∷ []) end.Return 1 ∷ []
  pub asserted : walks (fork false true)
      ≡ walk None (step 0 ∷ []) end.Assert 1 ∷ walk None (step_taken 0 ∷ []) end.Assert 1 ∷ walk (Some 1) [] end.Return 1 ∷ []
  pub entry : walks (return_node true ∷ []) ≡ walk None [] end.Assert 0 ∷ walk (Some 0) [] end.Return 0 ∷ []
