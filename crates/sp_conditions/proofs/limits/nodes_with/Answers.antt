use Rattle.std.proofs.Common.{◌∙◌, sym, arith}
use Rattle.sp_conditions.proofs.LimitLemmas.{counted_done}
use Rattle.sp_conditions.proofs.limits.nodes_with.Goals as goal

pub returns : goal.returns
returns c =
    let past = c.formulas-test.false in
    sym (counted_done 18446744073709551615 c.formulas.total c.formulas.t-index c.args.formulas.now (omega (arith, past)) c.formulas.invariant.within)
    ∙ c.formulas.invariant.same
