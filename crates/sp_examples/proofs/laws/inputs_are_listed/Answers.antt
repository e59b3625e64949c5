use Rattle.sp_examples.proofs.PortLemmas.{take_law}
use Rattle.sp_examples.proofs.laws.inputs_are_listed.Goals as goal

pub returns : goal.returns
returns c = take_law
