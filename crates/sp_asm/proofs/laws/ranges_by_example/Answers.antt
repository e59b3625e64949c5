use Rattle.std.proofs.Common.{refl}
use Rattle.sp_asm.specs.Values.{are_in_range}
use Rattle.sp_asm.proofs.laws.ranges_by_example.Goals as goal

pub returns : goal.returns
unfolding are_in_range
returns c = record {
  byte_255 = refl;
  byte_256 = refl;
  byte_feff = refl;
  byte_ff00 = refl;
  byte_ffff = refl;
  restart_7 = refl;
  restart_8 = refl;
  restart_ffff = refl;
  word_256 = refl;
  each = refl;
  all = refl;
}
