use Rattle.std.proofs.Common.{◌∙◌}
use Rattle.sp_graph.proofs.SearchLemmas.{nothing_left}
use Rattle.sp_graph.proofs.search.walk_here.Goals as goal

pub returns-in-None-clause-ok : goal.returns-in-None-clause-ok
returns-in-None-clause-ok c =
    let n = rw c.in-None.is at c.in_ok-found.ensures.ok in
    (c.moves.invariant.same ∙ rw (n.0, n.2) (nothing_left c.args.graph.now c.args.from), n.1, n.2)
