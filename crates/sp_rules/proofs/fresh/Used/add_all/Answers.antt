use Rattle.sp_rules.proofs.FreshLemmas.{gains_more}
use Rattle.sp_rules.proofs.fresh.Used.add_all.Goals as goal

pub loop-t-preserved : goal.loop-t-preserved
loop-t-preserved c =
    gains_more c.args.self.now c.loop-t.self c.add.new.self c.args.ts.now c.loop-t.t-index c.t-item.result c.loop-t-test.true c.t-item.is c.loop-t.invariant c.in_ok-add.ensures
