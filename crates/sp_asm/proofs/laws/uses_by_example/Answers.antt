use Rattle.std.proofs.Common.{refl}
use Rattle.sp_asm.proofs.laws.uses_by_example.Goals as goal

pub returns : goal.returns
returns c = record {
  equ = refl;
  set = refl;
  org = refl;
  space = refl;
  instruction = refl;
  items = refl;
  end = refl;
  label_value = refl;
  space_value = refl;
  equ_value = refl;
  set_value = refl;
}
