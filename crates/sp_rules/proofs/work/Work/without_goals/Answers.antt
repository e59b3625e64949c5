use Rattle.sp_rules.proofs.StackLemmas.{none_works}
use Rattle.sp_rules.proofs.work.Work.without_goals.Goals as goal

pub returns-clause-work : goal.returns-clause-work
returns-clause-work c = none_works _ c.new-2.result.items c.new-2.ensures.items
