use Rattle.std.proofs.Common.{◌+◌, ◌*◌}
use Rattle.sp_term.specs.Terms.{tree_of}
use Rattle.sp_term.specs.Tree.{nodes}
use Rattle.sp_term.proofs.equality.+same.Given as goal

abbrev pub decreases-same : goal.decreases-same
decreases-same l = 2 * nodes l.x.now + 1

abbrev pub decreases-same_kinds : goal.decreases-same_kinds
decreases-same_kinds l = 2 * nodes (tree_of l.x.now)
