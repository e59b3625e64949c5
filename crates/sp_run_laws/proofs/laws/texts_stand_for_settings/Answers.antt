use Rattle.sp_run_laws.proofs.WordLemmas.{stand_for_settings}
use Rattle.sp_run_laws.proofs.laws.texts_stand_for_settings.Goals as goal

pub returns : goal.returns
returns c = stand_for_settings
