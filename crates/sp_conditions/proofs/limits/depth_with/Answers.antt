use Rattle.std.proofs.Common.{◌∙◌, sym, arith}
use Rattle.sp_conditions.proofs.LimitLemmas.{looked_done}
use Rattle.sp_conditions.proofs.limits.depth_with.Goals as goal

pub returns : goal.returns
returns c =
    let past = c.formulas-test.false in
    sym (looked_done 4294967295 c.formulas.deepest c.formulas.t-index c.args.formulas.now (omega (arith, past)) c.formulas.invariant.within)
    ∙ c.formulas.invariant.same
