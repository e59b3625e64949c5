use Rattle.std.proofs.Common.{◌∙◌}
use Rattle.sp_linear.proofs.ZeroLemmas.{fails_at, more_at}
use Rattle.sp_linear.proofs.sums.Polynomial.others_are_zero.Goals as goal

pub returns-then-not-zero : goal.returns-then-not-zero
returns-then-not-zero c =
    fails_at c.args.self.now c.deref-m-items.result.now (c.deref-m-items.ensures.value ∙ c.self.view_is) c.loop-m.m-index c.m-item.result c.in_ok-zero.zero c.loop-m-test.true c.m-item.is c.in_ok-zero.ensures c.if-not-zero.true

pub loop-m-preserved : goal.loop-m-preserved
loop-m-preserved c =
    more_at c.args.self.now c.deref-m-items.result.now (c.deref-m-items.ensures.value ∙ c.self.view_is) c.loop-m.m-index c.m-item.result c.in_ok-zero.zero c.loop-m-test.true c.m-item.is c.in_ok-zero.ensures c.if-not-zero.false c.loop-m.invariant
