use Rattle.sp_script_text.proofs.StepLemmas.{one_step}
use Rattle.sp_script_text.proofs.laws.a_line_is_one_step.Goals as goal

pub returns : goal.returns
returns c = one_step
