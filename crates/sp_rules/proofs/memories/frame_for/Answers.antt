use Rattle.sp_rules.proofs.MemoryLemmas.{frame_there, frame_later}
use Rattle.sp_rules.proofs.memories.frame_for.Goals as goal

pub returns-then-is_variable : goal.returns-then-is_variable
returns-then-is_variable c =
    frame_there c.args.v c.args.frames.now c.loop-frame.frame-index c.frame-item.result c.loop-frame-test.true c.frame-item.is c.if-is_variable.ensures c.loop-frame.invariant

pub loop-frame-preserved : goal.loop-frame-preserved
loop-frame-preserved c =
    frame_later c.args.v c.args.frames.now c.loop-frame.frame-index c.frame-item.result c.loop-frame-test.true c.frame-item.is c.if-is_variable.ensures c.loop-frame.invariant
