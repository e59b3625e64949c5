use Rattle.std.proofs.Common.{◌≡◌, ◌≤◌, ◌∙◌, sym, ap, arith, length, length-append, slice_get, true, Some, None}
use Rattle.sp_graph.specs.Graph.{asserted_in}
use Rattle.sp_graph.specs.Walks.{walks_from, walks_after}
use Rattle.sp_graph.specs.declared.walk.Walk.{Walk}
use Rattle.sp_graph.proofs.CountLemmas.{counted_entry, counted_at}
use Rattle.sp_graph.proofs.CutLemmas.{walks_split, no_walks_after, total_next, total_same}
use Rattle.sp_graph.proofs.counting.count_all.Goals as goal
use Rattle.sp_graph.proofs.counting.count_all.Goals.{then-has_assertion, else-has_assertion}

pub cuts-init : goal.cuts-init
cuts-init c = record {
  small = let s = c.count_way-total.auto in omega arith;
  same =
      let entry = counted_entry c.args.graph.now c.args.order.now c.args.counts.now c.requires.order c.requires.whole c.requires.counted c.requires.some in
      let is = c.count_way-total.ensures in
      omega (
        arith,
        entry,
        is,
        ap length (walks_split c.args.graph.now),
        length-append (walks_from c.args.graph.now None) (walks_after c.args.graph.now 0),
      );
}

pub cuts-preserved : goal.cuts-preserved
cuts-preserved c =
    elim c.if-has_assertion.branch [
      | then-has_assertion w ↦
          let a : asserted_in (slice_get c.args.graph.now c.cuts.at) ≡ true = sym c.has_assertion.ensures ∙ w.if-has_assertion.true in
          let counted = counted_at c.args.graph.now c.args.order.now c.args.counts.now c.requires.order c.requires.whole c.requires.counted c.cuts.at c.cuts-test.true (Some c.cuts.at) in
          record {
            small = let is = w.saturating_add-total.ensures in rw w.total-is (omega (arith, is));
            same = rw (w.total-is, w.saturating_add-total.ensures) (total_next c.args.graph.now c.cuts.at c.cuts.total _ c.cuts-test.true a counted ∙ c.cuts.invariant.same);
          }
      | else-has_assertion w ↦ record {
        small = rw w.total-is c.cuts.invariant.small;
        same = rw w.total-is (total_same c.args.graph.now c.cuts.at c.cuts.total c.cuts-test.true (sym c.has_assertion.ensures ∙ w.if-has_assertion.false) ∙ c.cuts.invariant.same);
      }
    ]

pub returns : goal.returns
returns c =
    let past : length c.args.graph.now ≤ c.cuts.at = omega (arith, c.cuts-test.false) in
    let none = ap (length {A = Walk}) (no_walks_after c.args.graph.now c.cuts.at past) in
    let small = c.cuts.invariant.small in
    let same = c.cuts.invariant.same in
    omega (arith, none, small, same)
