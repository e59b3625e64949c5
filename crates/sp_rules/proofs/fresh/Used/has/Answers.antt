use Rattle.sp_rules.proofs.FreshLemmas.{seen_has}
use Rattle.sp_rules.proofs.fresh.Used.has.Goals as goal

pub returns : goal.returns
returns c = seen_has c.self.inside.numbers c.args.self.now c.args.j c.contains.result c.self.view_is c.contains.ensures
