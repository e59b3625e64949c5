use Rattle.sp_steps.specs.Steps.{Give}
use Rattle.sp_steps.specs.Rows.{given}
use Rattle.sp_rules.proofs.ApplyLemmas.{applies_at}
use Rattle.sp_rules.proofs.quantifiers.give.Goals as goal

pub returns : goal.returns
returns c =
    applies_at (Give c.args.x.now) c.args.goals c.in_ok-work.work c.in_ok-work.goal.now (given c.args.x.now c.in_ok-work.goal.now) c.give_at.result
    (record { subgoals = c.in_ok-work.ensures.entered.0; changes = c.in_ok-work.ensures.entered.1 }) (record { holds = λ made e. e; only = λ made e. e }) c.give_at.ensures
