use Rattle.std.proofs.Common.{take}
use Rattle.sp_unit.specs.code.Building.{ArePlaces}
use Rattle.sp_unit.proofs.area_places.places_of.Given as goal

abbrev pub invariant-loop-i : goal.invariant-loop-i
invariant-loop-i l = ArePlaces (take l.i l.areas) l.places.entries
