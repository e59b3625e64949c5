use Rattle.sp_examples.proofs.LoadLemmas.{promise_law, assert_law}
use Rattle.sp_examples.proofs.laws.annotations_are_true.Goals as goal

pub returns : goal.returns
returns c = record { post = promise_law; asserts = assert_law }
