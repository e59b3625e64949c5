use Rattle.std.proofs.Common.{length}
use Rattle.sp_graph.proofs.CycleLemmas.{no_highest}
use Rattle.sp_struct.proofs.cycles.uncut.Goals as goal

pub returns-in-None-clause-none : goal.returns-in-None-clause-none
returns-in-None-clause-none c = no_highest c.args.graph.now (length c.args.graph.now) (rw c.in-None.is at c.in_ok-found.ensures.none)
