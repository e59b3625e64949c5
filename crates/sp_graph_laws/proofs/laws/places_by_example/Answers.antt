use Rattle.std.proofs.Common.{refl}
use Rattle.sp_graph_laws.proofs.laws.places_by_example.Goals as goal

pub returns : goal.returns
returns c = record { first = refl; third = refl; inside = refl; past = refl; own = refl; other = refl; within = refl }
