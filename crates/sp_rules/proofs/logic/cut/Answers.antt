use Rattle.sp_steps.specs.Steps.{Cut}
use Rattle.sp_steps.specs.Rows.{cut_by}
use Rattle.sp_rules.proofs.ApplyLemmas.{applies_at}
use Rattle.sp_rules.proofs.logic.cut.Goals as goal

pub returns : goal.returns
returns c =
    applies_at (Cut c.args.t.now) c.args.goals c.in_ok-work.work c.in_ok-work.goal.now (cut_by c.args.t.now c.in_ok-work.goal.now) c.cut_at.result
    (record { subgoals = c.in_ok-work.ensures.entered.0; changes = c.in_ok-work.ensures.entered.1 }) (record { holds = λ made e. e; only = λ made e. e }) c.cut_at.ensures
