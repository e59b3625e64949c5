use Rattle.sp_struct.specs.code.Lowest.{LowestSoFar}
use Rattle.sp_struct.specs.code.Slots.{LacksHere}
use Rattle.sp_struct.proofs.slots.lowest_slot_in.Given as goal

abbrev pub invariant-places : goal.invariant-places
invariant-places l = LowestSoFar (LacksHere l.unit) l.place l.at l.best
