use Rattle.sp_reading_laws.proofs.SourceLemmas.{ends_there}
use Rattle.sp_reading_laws.proofs.laws.sources_end.Goals as goal

pub returns : goal.returns
returns c = ends_there
