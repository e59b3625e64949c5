use Rattle.sp_isa.proofs.FetchLemmas.{code_is_fetched}
use Rattle.sp_isa.proofs.laws.code_is_fetched.Goals as goal

pub returns : goal.returns
returns c = code_is_fetched
