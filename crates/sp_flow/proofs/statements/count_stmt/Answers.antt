use Rattle.std.proofs.Common.{◌≡◌, Some}
use Rattle.sp_flow.specs.code.Counts.{CalledAt, Direct, callee_by, own_lists}
use Rattle.sp_flow.proofs.StatementLemmas.{pair_more}
use Rattle.sp_graph.specs.Control.{control_of}
use Rattle.sp_graph.specs.Routines.{callee_at}
use Rattle.sp_flow.proofs.statements.count_stmt.Goals as goal

pub returns : goal.returns
returns c =
    let o = c.args.own.now in
    let r = own_lists o.locs o.reads.now o.changes.now o.ins.now o.outs.now in
    let s = c.args.stmt.now in
    pair_more (λ f. c.args.best ≡ Some f) s.line (Direct c.args.areas.now r s.instr c.args.unset)
    (CalledAt c.args.areas.now r (callee_at c.args.routines.now (callee_by c.args.routines.now (control_of s.instr))) c.args.unset)
    c.count_own-first.result c.count_called-both.result c.count_own-first.ensures c.count_called-both.ensures
