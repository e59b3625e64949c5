use Rattle.std.proofs.Common.{◌≡◌, ◌+◌, drop}
use Rattle.sp_base.specs.Cells.{placed, Keeps}
use Rattle.sp_base.proofs.image.Image.place.Given as goal

abbrev pub invariant-loop-byte : goal.invariant-loop-byte
invariant-loop-byte l = record {
  at : l.at ≡ l.a + l.byte-index;
  so_far : placed l.at (drop l.byte-index l.bytes) l.self ≡ placed l.a l.bytes l.initial.self;
  keeps : Keeps l.initial.self l.self;
}
