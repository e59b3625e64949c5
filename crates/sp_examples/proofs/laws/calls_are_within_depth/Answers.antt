use Rattle.sp_examples.proofs.CallLemmas.{call_law}
use Rattle.sp_examples.proofs.laws.calls_are_within_depth.Goals as goal

pub returns : goal.returns
returns c = call_law
