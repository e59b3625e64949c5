use Rattle.sp_steps.specs.Steps.{Read}
use Rattle.sp_steps.specs.Rows.{read_cell}
use Rattle.sp_rules.proofs.ApplyLemmas.{applies_at}
use Rattle.sp_rules.proofs.memories.read.Goals as goal

pub returns : goal.returns
returns c =
    applies_at (Read c.args.x.now) c.args.goals c.in_ok-work.work c.in_ok-work.goal.now (read_cell c.args.x.now c.in_ok-work.goal.now) c.read_at.result
    (record { subgoals = c.in_ok-work.ensures.entered.0; changes = c.in_ok-work.ensures.entered.1 }) (record { holds = λ made e. e; only = λ made e. e }) c.read_at.ensures
