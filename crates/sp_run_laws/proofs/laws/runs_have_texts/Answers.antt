use Rattle.sp_run_laws.proofs.RunLemmas.{has_texts}
use Rattle.sp_run_laws.proofs.laws.runs_have_texts.Goals as goal

pub returns : goal.returns
returns c = has_texts
