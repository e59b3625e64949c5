use Rattle.sp_rules.proofs.WorkLemmas.{trees_loaded}
use Rattle.sp_rules.proofs.work.Work.load.Goals as goal

pub returns-clause-hypotheses : goal.returns-clause-hypotheses
returns-clause-hypotheses c =
    trees_loaded c.args.kept c.args.self.now.hypotheses.items c.args.added.now c.truncate.new.self.items c.extend_from_slice.new.self.items
    c.truncate.ensures.items c.in_ok-extend_from_slice.ensures.items
