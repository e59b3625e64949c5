use Rattle.sp_command_laws.proofs.EndLemmas.{say_statuses}
use Rattle.sp_command_laws.proofs.laws.statuses_have_texts.Goals as goal

pub returns : goal.returns
returns c = say_statuses
