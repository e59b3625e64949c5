use Rattle.sp_steps.proofs.OneLemmas.{row_one, next_one}
use Rattle.sp_steps.proofs.laws.a_step_has_one_next_state.Goals as goal

pub returns : goal.returns
returns c = record { row = row_one; state = next_one }
