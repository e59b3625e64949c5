use Rattle.std.proofs.Common.{◌≡◌, length}
use Rattle.sp_expr.specs.Words.{AreIn}
use Rattle.sp_stmt.specs.code.Data.{items_of, behind, data_of}
use Rattle.sp_stmt.specs.code.Held.{held}
use Rattle.sp_stmt.proofs.data.data_of.Given as goal

abbrev pub invariant-loop-items : goal.invariant-loop-items
invariant-loop-items l =
    (behind (held l.items) (data_of l.kind l.source (items_of l.source l.rest)) ≡ data_of l.kind l.source (items_of l.source l.tokens)) × AreIn l.source l.rest

abbrev pub decreases-loop-items : goal.decreases-loop-items
decreases-loop-items l = length l.rest
