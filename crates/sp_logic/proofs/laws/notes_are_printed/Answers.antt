use Rattle.std.proofs.Common.{refl}
use Rattle.sp_logic.proofs.laws.notes_are_printed.Goals as goal

pub returns : goal.returns
returns c = record {
  comparison = refl;
  entry = refl;
  cells = refl;
  sums = refl;
  words = refl;
  bits = refl;
  operators = refl;
  connectives = refl;
  quantifiers = refl;
}
