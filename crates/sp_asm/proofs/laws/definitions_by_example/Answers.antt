use Rattle.std.proofs.Common.{refl}
use Rattle.sp_asm.proofs.laws.definitions_by_example.Goals as goal

pub returns : goal.returns
returns c = record {
  again = refl;
  set_after = refl;
  after_set = refl;
  both_set = refl;
  another = refl;
  unnamed = refl;
  last = refl;
  none = refl;
  order = refl;
  by_others = refl;
  by_set_alone = refl;
}
