use Rattle.sp_command_laws.proofs.CommandLemmas.{limit_files}
use Rattle.sp_command_laws.proofs.laws.files_have_limits.Goals as goal

pub returns : goal.returns
returns c = limit_files
