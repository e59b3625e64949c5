use Rattle.sp_rules.proofs.ApplyLemmas.{applies_fix}
use Rattle.sp_rules.proofs.quantifiers.fix.Goals as goal

pub returns : goal.returns
returns c =
    applies_fix c.args.goals c.in_ok-work.work c.in_ok-work.goal.now c.in_ok-j.j c.fix_at.result
    (record { subgoals = c.in_ok-work.ensures.entered.0; changes = c.in_ok-work.ensures.entered.1 }) c.in_ok-j.ensures c.fix_at.ensures
