use Rattle.sp_unit.proofs.CauseLemmas.{sources_have_one_cause}
use Rattle.sp_unit.proofs.laws.sources_have_one_cause.Goals as goal

pub returns : goal.returns
returns c = sources_have_one_cause
