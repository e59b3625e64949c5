use Rattle.sp_command_laws.proofs.EndLemmas.{follow_reads}
use Rattle.sp_command_laws.proofs.laws.statuses_follow_reads.Goals as goal

pub returns : goal.returns
returns c = follow_reads
