use Rattle.sp_examples.proofs.WatchLemmas.{watch_law}
use Rattle.sp_examples.proofs.laws.annotations_see_no_stack.Goals as goal

pub returns : goal.returns
returns c = watch_law
