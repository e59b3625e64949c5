use Rattle.sp_rules.proofs.ApplyLemmas.{applies_simp}
use Rattle.sp_rules.proofs.simplifying.simp_goal.Goals as goal

pub returns : goal.returns
returns c =
    applies_simp c.args.goals c.in_ok-work.work c.in_ok-work.goal.now c.in_ok-p.p.now c.simp_to.result
    (record { subgoals = c.in_ok-work.ensures.entered.0; changes = c.in_ok-work.ensures.entered.1 }) c.in_ok-p.ensures c.simp_to.ensures
