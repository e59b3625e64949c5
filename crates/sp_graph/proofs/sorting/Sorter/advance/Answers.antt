use Rattle.std.proofs.Common.{◌≡◌, ◌<◌, ◌≤◌, Some, None, length, arith, sym, ◌∙◌}
use Rattle.std.proofs.lemmas.List.{get_or_read}
use Rattle.sp_graph.specs.Cycles.{Edge}
use Rattle.sp_graph.specs.code.Sorting.{mark_at}
use Rattle.sp_graph.specs.declared.sorting.Mark.TheVariants.{New}
use Rattle.sp_graph.proofs.SortLemmas.{closes}
use Rattle.sp_graph.proofs.sorting.Sorter.advance.Goals as goal
use Rattle.sp_graph.proofs.sorting.Sorter.advance.Goals.{In-Some, After-index}

edge : (c : In-Some) → Edge c.args.graph.now c.args.limit c.args.step.at c.args.step.taken c.in-Some.to
edge c = (c.way.ensures c.in-Some.to).0 c.in-Some.is

inside : (c : In-Some) → c.in-Some.to < length c.args.self.now.marks.items
inside c = let l : c.in-Some.to < c.args.limit = (edge c).1 in let e : c.args.limit ≤ length c.args.self.now.marks.items = c.requires.sorting.size in omega arith

mark_is : (c : After-index) → mark_at c.args.self.now.marks.items c.in-Some.to ≡ c.index.result.now
mark_is c = sym (get_or_read c.args.self.now.marks.items c.in-Some.to c.index.result.now (inside (goal.at.After-index c).In-Some) c.index.ensures New)

pub leave-requires-clause-settled : goal.leave-requires-clause-settled
leave-requires-clause-settled c to e = let h : c.way.result ≡ Some to = (c.way.ensures to).1 e in let n : c.way.result ≡ None = c.in-None.is in cc (h, n)

pub index-requires : goal.index-requires
index-requires c = let l = inside (goal.at.index-requires c).In-Some in omega (arith, c.args.self.now.marks.ok.0)

pub enter-requires-clause-edge : goal.enter-requires-clause-edge
enter-requires-clause-edge c = edge (goal.at.enter-requires-clause-edge c).In-Some

pub leave-requires-in-Done-clause-settled : goal.leave-requires-in-Done-clause-settled
leave-requires-in-Done-clause-settled c to e =
    let h : c.way.result ≡ Some to = (c.way.ensures to).1 e in
    let n : c.way.result ≡ Some c.in-Some.to = c.in-Some.is in
    let same : to ≡ c.in-Some.to = cc (h, n) in
    rw same (mark_is (goal.at.leave-requires-in-Done-clause-settled c).After-index ∙ c.in-Done.is)

pub returns-in-Open : goal.returns-in-Open
returns-in-Open c =
    closes c.args.graph.now c.args.limit c.args.self.now.marks.items c.args.self.now.order.items c.args.self.now.stack.items c.args.step c.requires.sorting
    c.in-Some.to (edge (goal.at.returns-in-Open c).In-Some) (mark_is (goal.at.returns-in-Open c).After-index ∙ c.in-Open.is)
