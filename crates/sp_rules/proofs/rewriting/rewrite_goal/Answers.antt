use Rattle.std.proofs.Common.{None}
use Rattle.sp_steps.specs.Subgoals.{hypothesis}
use Rattle.sp_steps.specs.Steps.{Rewrite}
use Rattle.sp_steps.specs.Rows.{sides_of_some, rewritten_goal}
use Rattle.sp_rules.specs.code.Work.{hypotheses_of}
use Rattle.sp_rules.proofs.ApplyLemmas.{applies_at}
use Rattle.sp_rules.proofs.rewriting.rewrite_goal.Goals as goal

pub returns : goal.returns
returns c =
    applies_at (Rewrite c.args.k None c.args.back) c.args.goals c.in_ok-work.work c.in_ok-work.goal.now
    (rewritten_goal (sides_of_some c.args.back (hypothesis (hypotheses_of c.in_ok-work.work) c.args.k)) c.in_ok-work.goal.now) c.rewrite_goal_at.result
    (record { subgoals = c.in_ok-work.ensures.entered.0; changes = c.in_ok-work.ensures.entered.1 }) (record { holds = λ made e. e; only = λ made e. e }) c.rewrite_goal_at.ensures
