use Rattle.sp_steps.specs.Steps.{Choose}
use Rattle.sp_steps.specs.Rows.{chosen}
use Rattle.sp_rules.proofs.ApplyLemmas.{applies_at}
use Rattle.sp_rules.proofs.quantifiers.choose.Goals as goal

pub returns : goal.returns
returns c =
    applies_at (Choose c.args.x.now) c.args.goals c.in_ok-work.work c.in_ok-work.goal.now (chosen c.args.x.now c.in_ok-work.goal.now) c.choose_at.result
    (record { subgoals = c.in_ok-work.ensures.entered.0; changes = c.in_ok-work.ensures.entered.1 }) (record { holds = λ made e. e; only = λ made e. e }) c.choose_at.ensures
