use Rattle.sp_flow.proofs.OrderLemmas.{uses_first, writes_first}
use Rattle.sp_flow.proofs.laws.kinds_come_in_order.Goals as goal

pub returns : goal.returns
returns c = record { uses = uses_first; writes = writes_first }
