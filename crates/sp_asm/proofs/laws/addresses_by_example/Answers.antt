use Rattle.std.proofs.Common.{refl}
use Rattle.sp_asm.proofs.laws.addresses_by_example.Goals as goal

pub returns : goal.returns
returns c = record {
  first = refl;
  second = refl;
  third = refl;
  bare = refl;
  items = refl;
  space = refl;
  org = refl;
  equ = refl;
  set = refl;
  label = refl;
  end = refl;
}
