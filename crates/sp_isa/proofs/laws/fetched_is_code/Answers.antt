use Rattle.sp_isa.proofs.FetchLemmas.{fetched_is_code}
use Rattle.sp_isa.proofs.laws.fetched_is_code.Goals as goal

pub returns : goal.returns
returns c = fetched_is_code
