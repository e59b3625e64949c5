use Rattle.std.proofs.Common.{◌≡◌, ◌++◌, map, Some}
use Rattle.sp_graph.specs.Walks.{assertions_from, cuts, cut_of}
use Rattle.sp_graph.proofs.routine.cuts.Given as goal

abbrev pub invariant-places : goal.invariant-places
invariant-places l =
    l.found.items ++ map cut_of (map (λ at. Some at) (assertions_from l.graph.items l.at)) ≡ map cut_of (cuts l.graph.items)
