use Rattle.sp_command_laws.proofs.StageLemmas.{order_refusals}
use Rattle.sp_command_laws.proofs.laws.refusals_have_an_order.Goals as goal

pub returns : goal.returns
returns c = order_refusals
