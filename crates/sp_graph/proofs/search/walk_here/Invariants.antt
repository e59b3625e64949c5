use Rattle.std.proofs.Common.{◌≡◌}
use Rattle.sp_graph.specs.code.Search.{Ready, coming_walks, all_moves}
use Rattle.sp_graph.proofs.search.walk_here.Given as goal

abbrev pub invariant-moves : goal.invariant-moves
invariant-moves l = record {
  ready : Ready l.graph l.from l.steps l.place;
  same : coming_walks l.initial.graph l.initial.from l.initial.steps l.initial.place ≡ coming_walks l.graph l.from l.steps l.place;
}

abbrev pub decreases-moves : goal.decreases-moves
decreases-moves l = all_moves l.graph l.steps l.place
