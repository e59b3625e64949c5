use Rattle.sp_run_laws.proofs.StartLemmas.{sets_its_value}
use Rattle.sp_run_laws.proofs.laws.settings_set_their_values.Goals as goal

pub returns : goal.returns
returns c = sets_its_value
