use Rattle.sp_term.specs.Conditions.{trees}
use Rattle.sp_rules.proofs.FreshLemmas.{first_fresh_if}
use Rattle.sp_rules.proofs.fresh.fresh.Goals as goal

pub returns : goal.returns
returns c =
    first_fresh_if (trees c.args.hypotheses.now) c.args.goal.now c.new-used.result c.add_all.new.self c.add.new.self c.first_absent.result
    c.new-used.ensures c.in_ok-add_all.ensures c.in_ok-add.ensures c.first_absent.ensures
