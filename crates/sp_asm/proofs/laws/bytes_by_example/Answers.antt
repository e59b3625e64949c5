use Rattle.std.proofs.Common.{refl}
use Rattle.sp_asm.proofs.laws.bytes_by_example.Goals as goal

pub returns : goal.returns
returns c = record {
  word_bytes = refl;
  byte_bytes = refl;
  text_bytes = refl;
  items = refl;
  immediate_byte = refl;
  immediate_word = refl;
  restart_byte = refl;
  space = refl;
  item = refl;
  label = refl;
  bytes = refl;
  spaces = refl;
  orgs = refl;
  others = refl;
  equs = refl;
}
