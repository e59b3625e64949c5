use Rattle.sp_graph.proofs.MoveLemmas.{turns_by}
use Rattle.sp_graph.proofs.sorting.Sorter.turn.Goals as goal

pub returns : goal.returns
returns c =
    rw c.in_ok-push.ensures.items
    (turns_by c.args.graph.now c.args.limit c.args.self.now.marks.items c.args.self.now.order.items c.args.self.now.stack.items c.args.step.at c.args.step.taken
    c.requires.not_taken c.requires.sorting c.requires.settled)
