use Rattle.sp_steps.specs.Steps.{CasesOn}
use Rattle.sp_steps.specs.Rows.{cases_on}
use Rattle.sp_rules.proofs.ApplyLemmas.{applies_at}
use Rattle.sp_rules.proofs.logic.cases_on.Goals as goal

pub returns : goal.returns
returns c =
    applies_at (CasesOn c.args.p.now) c.args.goals c.in_ok-work.work c.in_ok-work.goal.now (cases_on c.args.p.now c.in_ok-work.goal.now) c.cases_on_at.result
    (record { subgoals = c.in_ok-work.ensures.entered.0; changes = c.in_ok-work.ensures.entered.1 }) (record { holds = λ made e. e; only = λ made e. e }) c.cases_on_at.ensures
