use Rattle.sp_gen.proofs.ExampleLemmas.{by_example}
use Rattle.sp_gen.proofs.laws.sources_by_example.Goals as goal

pub returns : goal.returns
returns c = by_example
