use Rattle.std.proofs.Common.{refl}
use Rattle.sp_graph_laws.proofs.ControlLemmas.{follows}
use Rattle.sp_graph_laws.proofs.laws.control_follows_the_processor.Goals as goal

pub returns : goal.returns
returns c = record { follows = follows; computed = refl }
