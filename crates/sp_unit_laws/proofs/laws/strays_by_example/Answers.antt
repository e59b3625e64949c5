use Rattle.std.proofs.Common.{refl}
use Rattle.sp_unit_laws.proofs.laws.strays_by_example.Goals as goal

pub returns : goal.returns
returns c = record {
  second_stack = refl;
  pre = refl;
  second_pre = refl;
  pre_outside = refl;
  pre_after_header = refl;
  pre_after_equ = refl;
  pre_after_stack = refl;
  pre_after_end = refl;
  start = refl;
  second_start = refl;
  start_after_header = refl;
  start_outside = refl;
  depth = refl;
  second_depth = refl;
  reads_outside = refl;
  changes_outside = refl;
  ins_outside = refl;
  outs_outside = refl;
  post_outside = refl;
  assertion = refl;
  assertion_outside = refl;
  assertion_at_end = refl;
  end = refl;
  end_outside = refl;
  routine = refl;
  without_end = refl;
  in_routine = refl;
  in_body = refl;
  after_routine = refl;
}
