use Rattle.sp_run_laws.proofs.RunLemmas.{ends_at_stop}
use Rattle.sp_run_laws.proofs.laws.runs_end_where_they_stop.Goals as goal

pub returns : goal.returns
returns c = ends_at_stop
