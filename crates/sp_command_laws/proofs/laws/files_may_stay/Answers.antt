use Rattle.sp_command_laws.proofs.EndLemmas.{may_stay}
use Rattle.sp_command_laws.proofs.laws.files_may_stay.Goals as goal

pub returns : goal.returns
returns c = may_stay
