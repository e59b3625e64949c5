use Rattle.std.proofs.Common.{refl}
use Rattle.sp_unit_laws.proofs.laws.unknowns_by_example.Goals as goal

pub returns : goal.returns
returns c = record {
  stack = refl;
  stack_first = refl;
  byte = refl;
  word = refl;
  bytes_at = refl;
  bytes = refl;
  reads = refl;
  reads_unknown = refl;
  changes_unknown = refl;
  locations = refl;
  port = refl;
  out_port = refl;
  depth = refl;
  condition = refl;
  post = refl;
  assertion = refl;
  stray_first = refl;
  before_clash = refl;
  before_not_here = refl;
  other_label = refl;
  label_alone = refl;
  second_instruction = refl;
  after_end = refl;
}
