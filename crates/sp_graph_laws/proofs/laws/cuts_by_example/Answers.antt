use Rattle.std.proofs.Common.{refl}
use Rattle.sp_graph.specs.Routines.{nodes_from}
use Rattle.sp_graph_laws.proofs.laws.cuts_by_example.Goals as goal

pub returns : goal.returns
unfolding nodes_from
returns c = record { plain = refl; asserted = refl }
