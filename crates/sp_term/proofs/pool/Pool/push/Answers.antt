use Rattle.sp_term.proofs.FindLemmas.{push_table}
use Rattle.sp_term.proofs.pool.Pool.push.Goals as goal

pub invariant_of-self-2 : goal.invariant_of-self-2
invariant_of-self-2 c = push_table _ _ c.self.view_is c.self.invariant c.args.shape _ c.requires.below c.requires.absent c.requires.term c.requires.span _ c.in-Ok.ensures.entries
