use Rattle.std.proofs.Common.{◌≡◌, length}
use Rattle.sp_graph.specs.code.Counts.{Counted}
use Rattle.sp_graph.proofs.counting.count.Given as goal

abbrev pub invariant-loop-at : goal.invariant-loop-at
invariant-loop-at l = record {
  size : length l.counts.items ≡ length l.graph;
  counted : Counted l.graph l.order l.counts.items l.at-index;
}
