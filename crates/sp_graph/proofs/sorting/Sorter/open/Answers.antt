use Rattle.std.proofs.Common.{◌<◌, ◌≤◌, length, arith, get_or-set_same}
use Rattle.sp_graph.specs.declared.sorting.Mark.TheVariants.{New, Open}
use Rattle.sp_graph.proofs.MoveLemmas.{opens}
use Rattle.sp_graph.proofs.sorting.Sorter.open.Goals as goal

pub returns-clause-moves : goal.returns-clause-moves
returns-clause-moves c =
    rw c.in_ok-push.ensures.items
    (opens c.args.graph.now c.args.limit c.args.self.now.marks.items c.args.self.now.order.items c.args.self.now.stack.items c.requires.sorting
    c.args.to c.requires.new c.requires.low c.requires.edge)

pub returns-clause-opened : goal.returns-clause-opened
returns-clause-opened c =
    let size : c.args.limit ≤ length c.args.self.now.marks.items = c.requires.sorting.size in
    let low : c.args.to < c.args.limit = c.requires.low in
    get_or-set_same c.args.self.now.marks.items c.args.to Open New (omega arith)
