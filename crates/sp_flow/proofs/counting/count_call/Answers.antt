use Rattle.sp_flow.specs.code.Counts.{own_lists}
use Rattle.sp_flow.proofs.CountLemmas.{Changed1, Taken2, Put3, Reads4, Reads5, by_told, called_all, calls_cell_kind, calls_loc_kind, five_more, from_none, port_kind, writes_kind}
use Rattle.sp_flow.proofs.counting.count_call.Goals as goal

pub returns : goal.returns
returns c =
    let areas = c.args.areas.now in
    let o = c.args.own.now in
    let r = own_lists o.locs o.reads.now o.changes.now o.ins.now o.outs.now in
    let q = c.args.callee.now in
    let callee = own_lists q.locs q.reads.now q.changes.now q.ins.now q.outs.now in
    called_all areas r callee c.args.unset c.args.line c.args.best c.with_kind-fifth.result
    (five_more c.args.line (Changed1 areas r callee c.args.unset) (Taken2 areas r callee c.args.unset) (Put3 areas r callee c.args.unset) (Reads4 areas r callee c.args.unset) (Reads5 areas r callee c.args.unset)
    c.args.best c.with_kind-first.result c.with_kind-second.result c.with_kind-third.result c.with_kind-fourth.result c.with_kind-fifth.result
    c.writes_cell-one.result c.uses_port-two.result c.uses_port-three.result c.calls_loc-four.result c.calls_cell-five.result
    (by_told (Changed1 areas r callee c.args.unset) c.writes_cell-one.result _ c.writes_cell-one.ensures (writes_kind _ c.lowest_listed-written.result (from_none _ c.lowest_listed-written.result c.lowest_listed-written.ensures)))
    (by_told (Taken2 areas r callee c.args.unset) c.uses_port-two.result _ c.uses_port-two.ensures (port_kind _ c.lowest_port-taken.result (from_none _ c.lowest_port-taken.result c.lowest_port-taken.ensures)))
    (by_told (Put3 areas r callee c.args.unset) c.uses_port-three.result _ c.uses_port-three.ensures (port_kind _ c.lowest_port-put.result (from_none _ c.lowest_port-put.result c.lowest_port-put.ensures)))
    (by_told (Reads4 areas r callee c.args.unset) c.calls_loc-four.result _ c.calls_loc-four.ensures (calls_loc_kind _ c.first_lacking-x.result c.first_lacking-x.ensures))
    (by_told (Reads5 areas r callee c.args.unset) c.calls_cell-five.result _ c.calls_cell-five.ensures (calls_cell_kind _ c.lowest_listed-cell.result (from_none _ c.lowest_listed-cell.result c.lowest_listed-cell.ensures)))
    c.with_kind-first.ensures c.with_kind-second.ensures c.with_kind-third.ensures c.with_kind-fourth.ensures c.with_kind-fifth.ensures)
