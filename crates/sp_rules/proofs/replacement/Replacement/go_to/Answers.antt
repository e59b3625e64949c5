use Rattle.std.proofs.Common.{arith}
use Rattle.sp_rules.proofs.ReplacementLemmas.{then_on}
use Rattle.sp_rules.proofs.replacement.Replacement.go_to.Goals as goal

pub returns : goal.returns
returns c =
    let past = c.trees-test.false in
    let len = c.len.ensures in
    record { goes_on = c.trees.invariant; place = omega (arith, past, len) }

pub trees-preserved : goal.trees-preserved
trees-preserved c = then_on _ _ _ c.trees.invariant c.in_ok-go_on.ensures.goes_on
