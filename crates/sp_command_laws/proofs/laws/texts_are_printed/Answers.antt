use Rattle.sp_command_laws.proofs.TextLemmas.{print_texts}
use Rattle.sp_command_laws.proofs.laws.texts_are_printed.Goals as goal

pub returns : goal.returns
returns c = print_texts
