use Rattle.sp_run_laws.proofs.StartLemmas.{starts_with_image}
use Rattle.sp_run_laws.proofs.laws.runs_start_with_their_image.Goals as goal

pub returns : goal.returns
returns c = starts_with_image
