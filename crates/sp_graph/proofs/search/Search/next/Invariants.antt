use Rattle.std.proofs.Common.{◌≡◌, ◌-◌, ℕ, Option, length}
use Rattle.sp_graph.specs.Walks.{IsCut, NoLongWalk}
use Rattle.sp_graph.specs.code.Search.{Ready, still_to_come}
use Rattle.sp_graph.proofs.search.Search.next.Given as goal

abbrev pub invariant-cuts : goal.invariant-cuts
invariant-cuts l = record {
  ready : Ready l.self-inside.graph.items l.self-inside.from l.self-inside.steps l.self-inside.place;
  graph_same : l.self-inside.graph ≡ l.initial.self-inside.graph;
  short : (from : Option ℕ) → IsCut l.self-inside.graph.items from → NoLongWalk l.self-inside.graph.items from;
  same :
      still_to_come l.self-inside.graph.items l.self-inside.from l.self-inside.steps l.self-inside.place l.self-inside.rest ≡
      still_to_come l.initial.self-inside.graph.items l.initial.self-inside.from l.initial.self-inside.steps l.initial.self-inside.place l.initial.self-inside.rest;
}

abbrev pub decreases-cuts : goal.decreases-cuts
decreases-cuts l = length l.self-inside.graph.items - l.self-inside.rest
