use Rattle.std.proofs.Common.{refl}
use Rattle.sp_graph.specs.Walks.{walks_on}
use Rattle.sp_graph_laws.proofs.laws.walks_double.Goals as goal

pub returns : goal.returns
unfolding walks_on
returns c = record { one = refl; two = refl; four = refl; eight = refl; sixteen = refl }
