use Rattle.sp_command_laws.proofs.TextLemmas.{number_exits}
use Rattle.sp_command_laws.proofs.laws.statuses_have_numbers.Goals as goal

pub returns : goal.returns
returns c = number_exits
