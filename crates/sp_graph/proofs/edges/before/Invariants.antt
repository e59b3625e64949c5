use Rattle.std.proofs.Common.{◌≡◌, ℕ, [], List, map}
use Rattle.std.specs.Prelude.{replicate}
use Rattle.sp_graph.specs.code.Before.{AreFirstBefore}
use Rattle.sp_graph.proofs.edges.before.Given as goal

abbrev pub invariant-starts : goal.invariant-starts
invariant-starts l = map (λ list. list.items) l.lists.items ≡ replicate {A = List ℕ} l.counter []

abbrev pub invariant-places : goal.invariant-places
invariant-places l = AreFirstBefore l.routine.code l.at (map (λ list. list.items) l.lists.items)
