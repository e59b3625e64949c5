use Rattle.std.proofs.Common.{refl}
use Rattle.sp_graph.specs.Walks.{walks_on}
use Rattle.sp_graph.proofs.laws.walks_come_in_order.Goals as goal

pub returns : goal.returns
unfolding walks_on
returns c = record { plain = refl; access = refl; asserted = refl; entry = refl }
