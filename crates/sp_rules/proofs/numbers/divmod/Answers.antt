use Rattle.std.proofs.Common.{subst, w64}
use Rattle.std.proofs.lemmas.Int.{to_z-of_z}
use Rattle.sp_steps.specs.Steps.{DivMod}
use Rattle.sp_steps.specs.Rows.{divided}
use Rattle.sp_rules.specs.code.Outcome.{Becomes, carried}
use Rattle.sp_rules.proofs.ApplyLemmas.{applies_at}
use Rattle.sp_rules.proofs.numbers.divmod.Goals as goal

pub returns : goal.returns
returns c =
    applies_at (DivMod c.args.x.now c.args.c) c.args.goals c.in_ok-work.work c.in_ok-work.goal.now (divided c.args.x.now c.args.c c.in_ok-work.goal.now) c.divmod_at.result
    (record { subgoals = c.in_ok-work.ensures.entered.0; changes = c.in_ok-work.ensures.entered.1 }) (record { holds = λ made e. e; only = λ made e. e })
    (subst (λ z. Becomes c.divmod_at.result (carried (divided c.args.x.now z c.in_ok-work.goal.now) c.in_ok-work.work)) (to_z-of_z w64 c.args.c c.ranges.c) c.divmod_at.ensures)
