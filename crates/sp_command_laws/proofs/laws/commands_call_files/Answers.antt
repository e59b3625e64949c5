use Rattle.sp_command_laws.proofs.SessionLemmas.{call_files}
use Rattle.sp_command_laws.proofs.laws.commands_call_files.Goals as goal

pub returns : goal.returns
returns c = call_files
