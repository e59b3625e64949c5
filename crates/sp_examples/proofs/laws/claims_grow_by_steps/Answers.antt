use Rattle.sp_examples.proofs.RunLemmas.{good_none, good_more, good_returned}
use Rattle.sp_examples.proofs.laws.claims_grow_by_steps.Goals as goal

pub returns : goal.returns
returns c = record { none = good_none; more = good_more; returned = good_returned }
