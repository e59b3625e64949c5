use Rattle.sp_examples.proofs.StoppedLemmas.{halted_good, stuck_bad, input_bad}
use Rattle.sp_examples.proofs.laws.halted_states_go_nowhere.Goals as goal

pub returns : goal.returns
returns c = record { halted = halted_good; stuck = stuck_bad; input = input_bad }
