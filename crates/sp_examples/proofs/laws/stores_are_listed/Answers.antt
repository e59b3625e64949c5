use Rattle.sp_examples.proofs.StoreLemmas.{store_law}
use Rattle.sp_examples.proofs.laws.stores_are_listed.Goals as goal

pub returns : goal.returns
returns c = store_law
