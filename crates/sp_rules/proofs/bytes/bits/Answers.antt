use Rattle.sp_steps.specs.Steps.{Bits}
use Rattle.sp_steps.specs.Rows.{in_bits}
use Rattle.sp_rules.proofs.ApplyLemmas.{applies_at}
use Rattle.sp_rules.proofs.bytes.bits.Goals as goal

pub returns : goal.returns
returns c =
    applies_at (Bits c.args.x.now) c.args.goals c.in_ok-work.work c.in_ok-work.goal.now (in_bits c.args.x.now c.in_ok-work.goal.now) c.bits_at.result
    (record { subgoals = c.in_ok-work.ensures.entered.0; changes = c.in_ok-work.ensures.entered.1 }) (record { holds = λ made e. e; only = λ made e. e }) c.bits_at.ensures
