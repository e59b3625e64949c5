use Rattle.sp_command_laws.proofs.EndLemmas.{write_once}
use Rattle.sp_command_laws.proofs.laws.images_are_written_once.Goals as goal

pub returns : goal.returns
returns c = write_once
