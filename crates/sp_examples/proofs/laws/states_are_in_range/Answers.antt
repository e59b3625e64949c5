use Rattle.sp_examples.proofs.StoppedLemmas.{register_law, inputs_law, outputs_law}
use Rattle.sp_examples.proofs.laws.states_are_in_range.Goals as goal

pub returns : goal.returns
returns c = record { register = register_law; input = inputs_law; output = outputs_law }
