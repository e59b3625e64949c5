use Rattle.sp_command_laws.proofs.EndLemmas.{keep_promises}
use Rattle.sp_command_laws.proofs.laws.files_and_sinks_hold_fronts.Goals as goal

pub returns : goal.returns
returns c = keep_promises
