use Rattle.std.proofs.Common.{◌≡◌, ◌++◌, drop}
use Rattle.sp_graph.specs.Routines.{nodes_from, graph_of_code}
use Rattle.sp_graph.proofs.nodes.graph_of_code.Given as goal

abbrev pub invariant-places : goal.invariant-places
invariant-places l = l.graph.items ++ nodes_from l.routines l.code l.at (drop l.at l.code) ≡ graph_of_code l.routines l.code
