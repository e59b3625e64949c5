use Rattle.sp_examples.proofs.ReturnLemmas.{left_law}
use Rattle.sp_examples.proofs.laws.returns_leave_what_is_listed.Goals as goal

pub returns : goal.returns
returns c = left_law
