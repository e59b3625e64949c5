use Rattle.sp_examples.proofs.PortLemmas.{send_law}
use Rattle.sp_examples.proofs.laws.outputs_are_listed.Goals as goal

pub returns : goal.returns
returns c = send_law
