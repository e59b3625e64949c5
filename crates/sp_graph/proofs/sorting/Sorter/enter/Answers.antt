use Rattle.sp_graph.proofs.MoveLemmas.{last_edge}
use Rattle.sp_graph.proofs.sorting.Sorter.enter.Goals as goal

pub open-requires-clause-edge : goal.open-requires-clause-edge
open-requires-clause-edge c =
    rw c.in_ok-push.ensures.items
    (last_edge c.args.graph.now c.args.limit c.args.self.now.marks.items c.args.self.now.order.items c.args.self.now.stack.items c.args.step c.args.to c.requires.edge)
