use Rattle.sp_trans.proofs.ExampleLemmas.{translates_by_example}
use Rattle.sp_trans.proofs.laws.translation_by_example.Goals as goal

pub returns : goal.returns
returns c = translates_by_example
