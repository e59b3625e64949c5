use Rattle.std.proofs.Common.{None, sym}
use Rattle.sp_graph.specs.code.Search.{still_to_come}
use Rattle.sp_graph.proofs.CutLemmas.{walks_split}
use Rattle.sp_graph.proofs.SearchLemmas.{ready_entry, start_entry}
use Rattle.sp_graph.proofs.search.Search.new.Goals as goal

pub invariant_of-result : goal.invariant_of-result
invariant_of-result c = rw c.new.ensures (ready_entry c.args.graph.items (c.requires None tt), c.requires)

pub returns : goal.returns
unfolding still_to_come
returns c =
    rw (c.new.ensures, start_entry c.args.graph.items (c.requires None tt)) (sym (walks_split c.args.graph.items))
