use Rattle.std.proofs.Common.{◌≡◌, ◌⊎◌, Some, subst}
use Rattle.sp_flow.specs.code.Counts.{Called, Own, own_lists}
use Rattle.sp_flow.specs.code.Faults.{IsFirst}
use Rattle.sp_flow.proofs.statements.count_callee.Goals as goal

pub returns : goal.returns
returns c =
    let o = c.args.own.now in
    subst
    (λ (q : Own). IsFirst (λ f. (c.args.best ≡ Some f) ⊎ ((f.line ≡ c.args.line)
    × Called c.args.areas.now (own_lists o.locs o.reads.now o.changes.now o.ins.now o.outs.now) q c.args.unset f.kind)) c.count_call-counted.result)
    c.listed_of-callee.ensures c.count_call-counted.ensures
