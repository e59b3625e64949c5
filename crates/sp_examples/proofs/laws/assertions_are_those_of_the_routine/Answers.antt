use Rattle.sp_examples.proofs.FlowLemmas.{first_good, second_bad}
use Rattle.sp_examples.proofs.laws.assertions_are_those_of_the_routine.Goals as goal

pub returns : goal.returns
returns c = record { first = first_good; second = second_bad }
