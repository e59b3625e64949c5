use Rattle.sp_machine.proofs.PortLemmas.{steps_are_told}
use Rattle.sp_machine.proofs.laws.events_tell_the_ports.Goals as goal

pub returns : goal.returns
returns c = steps_are_told
