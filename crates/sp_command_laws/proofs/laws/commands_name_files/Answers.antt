use Rattle.sp_command_laws.proofs.CommandLemmas.{name_files}
use Rattle.sp_command_laws.proofs.laws.commands_name_files.Goals as goal

pub returns : goal.returns
returns c = name_files
