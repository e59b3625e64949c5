use Rattle.sp_command_laws.proofs.CommandLemmas.{order_reads}
use Rattle.sp_command_laws.proofs.laws.reads_have_an_order.Goals as goal

pub returns : goal.returns
returns c = order_reads
