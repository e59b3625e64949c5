use Rattle.std.proofs.Common.{length}
use Rattle.sp_struct.proofs.LeastLemmas.{chain, least_walk, all_reached}
use Rattle.sp_struct.proofs.breadth.least_walks.Goals as goal

pub returns-clause-least : goal.returns-clause-least
returns-clause-least c =
    let s = c.in_ok-found.found in
    λ k l. (
      chain s.order.items s.up.items (length s.order.items) k,
      least_walk c.args.graph.now s.seen.items s.order.items s.up.items (length s.order.items) c.in_ok-found.ensures.grown c.in_ok-found.ensures.closed k l,
    )

pub returns-clause-all : goal.returns-clause-all
returns-clause-all c =
    let s = c.in_ok-found.found in
    all_reached c.args.graph.now s.seen.items s.order.items s.up.items (length s.order.items) c.in_ok-found.ensures.grown c.in_ok-found.ensures.closed
