use Rattle.std.proofs.Common.{◌-◌, length}
use Rattle.sp_struct.specs.code.Depths.{TellsFirst}
use Rattle.sp_struct.proofs.LeastLemmas.{chain}
use Rattle.sp_struct.proofs.stack.find_levels.Given as goal

abbrev pub invariant-places : goal.invariant-places
invariant-places l =
    TellsFirst l.graph l.code (λ k. chain l.order.items l.up.items (length l.order.items) k) l.order.items l.depths.items l.next

abbrev pub decreases-places : goal.decreases-places
decreases-places l = length l.order.items - l.next
