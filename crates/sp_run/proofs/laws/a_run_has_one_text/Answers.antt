use Rattle.sp_run.proofs.RunLaws.{one_run_text}
use Rattle.sp_run.proofs.laws.a_run_has_one_text.Goals as goal

pub returns : goal.returns
returns c = one_run_text
