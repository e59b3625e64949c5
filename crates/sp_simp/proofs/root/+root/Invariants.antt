use Rattle.sp_term.specs.Pools.{shape_tree}
use Rattle.sp_simp.specs.code.Weight.{weight}
use Rattle.sp_simp.proofs.root.+root.Given as goal

abbrev pub decreases-root : goal.decreases-root
decreases-root l = weight (shape_tree l.pool.now l.shape)
