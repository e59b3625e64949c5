use Rattle.std.proofs.Common.{◌≤◌, take}
use Rattle.sp_asm.specs.code.Passes.{ArePlaces}
use Rattle.sp_asm.proofs.places.places_of.Given as goal

abbrev pub invariant-loop-s : goal.invariant-loop-s
invariant-loop-s l = record {
  placed : ArePlaces (take l.s-index l.statements) l.places;
  within : l.places.address ≤ 65536;
}
