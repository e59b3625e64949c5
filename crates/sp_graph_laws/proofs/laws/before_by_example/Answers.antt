use Rattle.std.proofs.Common.{refl}
use Rattle.sp_graph_laws.proofs.laws.before_by_example.Goals as goal

pub returns : goal.returns
returns c = record { none_before = refl; one_before = refl; two_before = refl; once = refl; itself = refl; among_the_first = refl }
