use Rattle.std.proofs.Common.{◌≤◌, arith}
use Rattle.sp_graph.proofs.MoveLemmas.{all_done}
use Rattle.sp_graph.proofs.sorting.sort.Goals as goal

pub returns : goal.returns
returns c =
    let past : c.args.limit ≤ c.roots.root = c.roots-test.false in
    all_done c.args.graph.now c.args.limit c.roots.sorter.marks.items c.roots.sorter.order.items c.roots.sorter.stack.items
    c.roots.invariant.sorting c.roots.invariant.empty (λ v l. c.roots.invariant.done v (omega arith))
