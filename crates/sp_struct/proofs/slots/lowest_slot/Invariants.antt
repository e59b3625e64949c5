use Rattle.sp_struct.specs.code.Lowest.{LowestSoFar}
use Rattle.sp_struct.specs.code.Slots.{LacksHere}
use Rattle.sp_struct.proofs.slots.lowest_slot.Given as goal

abbrev pub invariant-routines : goal.invariant-routines
invariant-routines l = LowestSoFar (LacksHere l.unit) l.place 0 l.best
