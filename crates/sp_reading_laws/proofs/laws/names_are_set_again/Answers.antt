use Rattle.sp_reading_laws.proofs.SourceLemmas.{sets_again}
use Rattle.sp_reading_laws.proofs.laws.names_are_set_again.Goals as goal

pub returns : goal.returns
returns c = sets_again
