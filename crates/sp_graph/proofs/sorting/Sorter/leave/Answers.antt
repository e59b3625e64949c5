use Rattle.sp_graph.proofs.MoveLemmas.{last_low}
use Rattle.sp_graph.proofs.sorting.Sorter.leave.Goals as goal

pub finish-requires-clause-low : goal.finish-requires-clause-low
finish-requires-clause-low c =
    last_low c.args.graph.now c.args.limit c.args.self.now.marks.items c.args.self.now.order.items c.args.self.now.stack.items c.args.step c.requires.sorting
