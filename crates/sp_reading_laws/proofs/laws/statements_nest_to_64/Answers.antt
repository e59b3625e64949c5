use Rattle.sp_reading_laws.proofs.SourceLemmas.{nests_to_64}
use Rattle.sp_reading_laws.proofs.laws.statements_nest_to_64.Goals as goal

pub returns : goal.returns
returns c = nests_to_64
