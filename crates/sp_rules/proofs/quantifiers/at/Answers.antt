use Rattle.sp_steps.specs.Subgoals.{hypothesis}
use Rattle.sp_steps.specs.Steps.{At}
use Rattle.sp_steps.specs.Rows.{instance_of}
use Rattle.sp_rules.specs.code.Work.{hypotheses_of}
use Rattle.sp_rules.proofs.ApplyLemmas.{applies_at}
use Rattle.sp_rules.proofs.quantifiers.at.Goals as goal

pub returns : goal.returns
returns c =
    applies_at (At c.args.k c.args.x.now) c.args.goals c.in_ok-work.work c.in_ok-work.goal.now (instance_of (hypothesis (hypotheses_of c.in_ok-work.work) c.args.k) c.args.x.now c.in_ok-work.goal.now) c.instance_at.result
    (record { subgoals = c.in_ok-work.ensures.entered.0; changes = c.in_ok-work.ensures.entered.1 }) (record { holds = λ made e. e; only = λ made e. e }) c.instance_at.ensures
