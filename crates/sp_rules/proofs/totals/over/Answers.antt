use Rattle.sp_steps.specs.Steps.{Over}
use Rattle.sp_steps.specs.Rows.{total_over_update}
use Rattle.sp_rules.proofs.ApplyLemmas.{applies_at}
use Rattle.sp_rules.proofs.totals.over.Goals as goal

pub returns : goal.returns
returns c =
    applies_at (Over c.args.x.now) c.args.goals c.in_ok-work.work c.in_ok-work.goal.now (total_over_update c.args.x.now c.in_ok-work.goal.now) c.over_at.result
    (record { subgoals = c.in_ok-work.ensures.entered.0; changes = c.in_ok-work.ensures.entered.1 }) (record { holds = λ made e. e; only = λ made e. e }) c.over_at.ensures
