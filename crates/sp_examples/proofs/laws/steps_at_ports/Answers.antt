use Rattle.sp_examples.proofs.StoppedLemmas.{step_in, step_in_past, step_out, step_else}
use Rattle.sp_examples.proofs.laws.steps_at_ports.Goals as goal

pub returns : goal.returns
returns c = record { taken = step_in; past_end = step_in_past; put_out = step_out; neither = step_else }
