use Rattle.sp_rules.proofs.FreshLemmas.{gains_one}
use Rattle.sp_rules.proofs.fresh.Used.add_variable.Goals as goal

pub returns-in-Any : goal.returns-in-Any
returns-in-Any c = gains_one c.args.self.now c.insert.new.self c.in-Any.j c.args.v c.insert.result c.in-Any.is c.insert.ensures
