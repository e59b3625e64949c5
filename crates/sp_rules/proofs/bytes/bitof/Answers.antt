use Rattle.std.proofs.Common.{subst, w64}
use Rattle.std.proofs.lemmas.Int.{to_z-of_z}
use Rattle.sp_steps.specs.Steps.{BitOf}
use Rattle.sp_steps.specs.Rows.{bit_of}
use Rattle.sp_rules.specs.code.Outcome.{Becomes, carried}
use Rattle.sp_rules.proofs.ApplyLemmas.{applies_at}
use Rattle.sp_rules.proofs.bytes.bitof.Goals as goal

pub returns : goal.returns
returns c =
    applies_at (BitOf c.args.k c.args.x.now) c.args.goals c.in_ok-work.work c.in_ok-work.goal.now (bit_of c.args.k c.args.x.now c.in_ok-work.goal.now) c.bitof_at.result
    (record { subgoals = c.in_ok-work.ensures.entered.0; changes = c.in_ok-work.ensures.entered.1 }) (record { holds = λ made e. e; only = λ made e. e })
    (subst (λ z. Becomes c.bitof_at.result (carried (bit_of z c.args.x.now c.in_ok-work.goal.now) c.in_ok-work.work)) (to_z-of_z w64 c.args.k c.ranges.k) c.bitof_at.ensures)
