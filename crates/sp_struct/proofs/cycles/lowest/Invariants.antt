use Rattle.std.proofs.Common.{◌<◌, ◌≤◌, ◌-◌, ℕ, length}
use Rattle.sp_graph.specs.Cycles.{Reaches}
use Rattle.sp_struct.proofs.cycles.lowest.Given as goal

abbrev pub invariant-halves : goal.invariant-halves
invariant-halves l = record {
  apart : l.low < l.high;
  within : l.high ≤ length l.graph;
  none : (v : ℕ) → Reaches l.graph l.low v v → ⊥;
  some : Reaches l.graph l.high l.on_cycle l.on_cycle;
}

abbrev pub decreases-halves : goal.decreases-halves
decreases-halves l = l.high - l.low
