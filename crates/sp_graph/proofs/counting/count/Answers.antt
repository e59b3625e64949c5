use Rattle.std.proofs.Common.{◌≡◌, ◌∙◌, length-set, get_or}
use Rattle.sp_graph.specs.code.Counts.{node_count}
use Rattle.sp_graph.proofs.CountLemmas.{counted_more}
use Rattle.sp_graph.proofs.counting.count.Goals as goal

pub loop-at-preserved : goal.loop-at-preserved
loop-at-preserved c = record {
  size = length-set c.loop-at.counts.items _ _ ∙ c.loop-at.invariant.size;
  counted =
      let at = get_or c.args.order.now c.loop-at.at-index 0 in
      let is : c.count_node.result ≡ node_count c.args.graph.now c.loop-at.counts.items at = rw c.deref.ensures.value at c.count_node.ensures in
      rw is (counted_more c.args.graph.now c.args.order.now c.loop-at.counts.items c.requires.order c.requires.whole c.loop-at.at-index c.loop-at-test.true c.loop-at.invariant.size c.loop-at.invariant.counted);
}
