use Rattle.std.proofs.Common.{subst}
use Rattle.sp_base.specs.declared.locs.Locs.{Locs}
use Rattle.sp_flow.specs.code.Counts.{own_lists}
use Rattle.sp_flow.specs.code.Least.{IsFirstLoc, Lacks}
use Rattle.sp_flow.proofs.CountLemmas.{Loc1, Cell2, Cell3, Port4, Port5, by_told, direct_all, five_more, port_kind, uses_cell_kind, uses_loc_kind, writes_kind}
use Rattle.sp_flow.proofs.counting.count_own.Goals as goal

pub returns : goal.returns
returns c =
    let areas = c.args.areas.now in
    let i = c.args.instr.now in
    let o = c.args.own.now in
    let r = own_lists o.locs o.reads.now o.changes.now o.ins.now o.outs.now in
    let lacking = subst (λ (u : Locs). IsFirstLoc (Lacks u o.locs c.args.unset) c.first_lacking-x.result) c.reads-used.ensures c.first_lacking-x.ensures in
    direct_all areas r i c.args.unset c.args.line c.args.best c.with_kind-fifth.result
    (five_more c.args.line (Loc1 areas r i c.args.unset) (Cell2 areas r i c.args.unset) (Cell3 areas r i c.args.unset) (Port4 areas r i c.args.unset) (Port5 areas r i c.args.unset)
    c.args.best c.with_kind-first.result c.with_kind-second.result c.with_kind-third.result c.with_kind-fourth.result c.with_kind-fifth.result
    c.uses_loc-one.result c.uses_cell-two.result c.writes_cell-three.result c.uses_port-four.result c.uses_port-five.result
    (by_told (Loc1 areas r i c.args.unset) c.uses_loc-one.result _ c.uses_loc-one.ensures (uses_loc_kind _ c.first_lacking-x.result lacking))
    (by_told (Cell2 areas r i c.args.unset) c.uses_cell-two.result _ c.uses_cell-two.ensures (uses_cell_kind _ c.lowest_read-cell.result c.lowest_read-cell.ensures))
    (by_told (Cell3 areas r i c.args.unset) c.writes_cell-three.result _ c.writes_cell-three.ensures (writes_kind _ c.lowest_written-written.result c.lowest_written-written.ensures))
    (by_told (Port4 areas r i c.args.unset) c.uses_port-four.result _ c.uses_port-four.ensures (port_kind _ c.taken_port-taken.result c.taken_port-taken.ensures))
    (by_told (Port5 areas r i c.args.unset) c.uses_port-five.result _ c.uses_port-five.ensures (port_kind _ c.put_port-put.result c.put_port-put.ensures))
    c.with_kind-first.ensures c.with_kind-second.ensures c.with_kind-third.ensures c.with_kind-fourth.ensures c.with_kind-fifth.ensures)
