use Rattle.sp_struct.proofs.ExampleLemmas.{by_example}
use Rattle.sp_struct.proofs.laws.rules_by_example.Goals as goal

pub returns : goal.returns
returns c = by_example
