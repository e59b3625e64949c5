use Rattle.sp_run_laws.proofs.WordLemmas.{stand_for_options}
use Rattle.sp_run_laws.proofs.laws.words_stand_for_options.Goals as goal

pub returns : goal.returns
returns c = stand_for_options
