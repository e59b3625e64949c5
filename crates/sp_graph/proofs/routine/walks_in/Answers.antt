use Rattle.sp_graph.proofs.LongLemmas.{no_walk_is_long}
use Rattle.sp_graph.proofs.routine.walks_in.Goals as goal

pub new-requires : goal.new-requires
new-requires c from cut = no_walk_is_long c.args.graph.items from c.requires.whole c.requires.some cut c.requires.cycles
