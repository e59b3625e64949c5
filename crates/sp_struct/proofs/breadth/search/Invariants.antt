use Rattle.std.proofs.Common.{◌-◌, ◌+◌, length}
use Rattle.sp_struct.specs.code.Breadth.{Level, unseen}
use Rattle.sp_struct.proofs.breadth.search.Given as goal

abbrev pub invariant-levels : goal.invariant-levels
invariant-levels l = Level l.graph l.search.seen.items l.search.order.items l.search.up.items l.head

abbrev pub decreases-levels : goal.decreases-levels
decreases-levels l = unseen l.search.seen.items + (length l.search.order.items - l.head)
