use Rattle.std.proofs.Common.{◌≡◌, ◌+◌, ◌<◌, ◌^◌, length}
use Rattle.sp_graph.specs.Walks.{walks, walks_after}
use Rattle.sp_graph.specs.code.Counts.{at_most}
use Rattle.sp_graph.proofs.counting.count_all.Given as goal

abbrev pub invariant-cuts : goal.invariant-cuts
invariant-cuts l = record {
  small : l.total < 2 ^ 64;
  same : at_most (l.total + length (walks_after l.graph l.at)) ≡ at_most (length (walks l.graph));
}
