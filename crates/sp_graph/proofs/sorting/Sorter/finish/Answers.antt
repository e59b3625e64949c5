use Rattle.sp_graph.proofs.MoveLemmas.{finishes_by}
use Rattle.sp_graph.proofs.sorting.Sorter.finish.Goals as goal

pub returns : goal.returns
returns c =
    rw c.in_ok-push.ensures.items
    (finishes_by c.args.graph.now c.args.limit c.args.self.now.marks.items c.args.self.now.order.items c.args.self.now.stack.items c.args.step.at c.args.step.taken
    c.requires.taken c.requires.low c.requires.sorting c.requires.settled)
