use Rattle.sp_rules.proofs.FreshLemmas.{seen_insert}
use Rattle.sp_rules.proofs.fresh.Used.insert.Goals as goal

pub returns : goal.returns
returns c = seen_insert c.self.inside.numbers c.insert.new.self c.args.self.now c.args.j c.self.view_is c.in-Ok.ensures.updates.0
