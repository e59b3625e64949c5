use Rattle.std.proofs.Common.{refl, sym}
use Rattle.sp_asm.specs.Assembly.{IsPlaced}
use Rattle.sp_asm.proofs.SplitLaws.{splits_empty}
use Rattle.sp_asm.proofs.places.Places.new.Goals as goal

pub returns : goal.returns
returns c = record {
  spots = sym c.new.ensures.items;
  address = refl;
  names = c.new-2.ensures.empty;
  fixed_names = c.new-3.ensures.empty;
  placed = splits_empty IsPlaced;
}
