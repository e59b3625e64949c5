use Rattle.std.proofs.Common.{◌+◌, take, sym, ap, ◌∙◌}
use Rattle.std.specs.Prelude.{unwrap_or}
use Rattle.sp_note.specs.Bounds.{bound_of_name}
use Rattle.sp_note.specs.code.Frames.{binding, bounds_in, frame_of, stack_of}
use Rattle.sp_note.proofs.StackLemmas.{bounds_nothing, bound_more}
use Rattle.sp_note.proofs.head.bound_in.Goals as goal

pub loop-frame-init : goal.loop-frame-init
loop-frame-init c = bounds_nothing c.args.name

pub loop-frame-preserved : goal.loop-frame-preserved
loop-frame-preserved c =
    c.bound_after-bound.ensures ∙ bound_more c.args.frames.now c.loop-frame.frame-index c.frame-item.result c.args.name c.loop-frame.bound c.loop-frame-test.true c.frame-item.is c.loop-frame.invariant
