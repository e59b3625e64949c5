use Rattle.std.proofs.Common.{sym}
use Rattle.sp_rules.proofs.ApplyLemmas.{applies_simp_at, applies_no_simp}
use Rattle.sp_rules.proofs.simplifying.simp_hypothesis.Goals as goal

pub returns-in_default : goal.returns-in_default
returns-in_default c =
    applies_no_simp c.args.k c.args.goals c.in_ok-work.work c.in_ok-work.goal.now
    (record { subgoals = c.in_ok-work.ensures.entered.0; changes = c.in_ok-work.ensures.entered.1 }) (sym c.in_default.ensures)

pub returns : goal.returns
returns c =
    applies_simp_at c.args.k c.args.goals c.in_ok-work.work c.in_ok-work.goal.now c.in-Some.h.now c.in_ok-p.p.now c.add_within_limits.result
    (record { subgoals = c.in_ok-work.ensures.entered.0; changes = c.in_ok-work.ensures.entered.1 }) (sym c.in-Some.ensures) c.in_ok-p.ensures c.add_within_limits.ensures
