use Rattle.std.proofs.Common.{arith, ◌^◌}
use Rattle.sp_logic.specs.View.{quantity_of}
use Rattle.sp_eval.specs.code.Narrow.{bounds_of}
use Rattle.sp_eval.proofs.NarrowLemmas.{below_whole}
use Rattle.sp_eval.proofs.narrow.+bound_of.Goals as goal

pub operator_bound-requires-clause-left : goal.operator_bound-requires-clause-left
operator_bound-requires-clause-left t c =
    let e = c.in_ok-x-in-Operate.ensures {u = tt} in
    let bound = e.0 in
    let low = below_whole (2 ^ 101) (bounds_of c.args.names.now) (quantity_of c.deref-in-Operate.result.now) e.1 in
    omega (arith, bound, low)

pub operator_bound-requires-clause-right : goal.operator_bound-requires-clause-right
operator_bound-requires-clause-right t c =
    let e = c.in_ok-y-in-Operate.ensures {u = tt} in
    let bound = e.0 in
    let low = below_whole (2 ^ 101) (bounds_of c.args.names.now) (quantity_of c.deref-in-Operate-2.result.now) e.1 in
    omega (arith, bound, low)
