use Rattle.std.proofs.Common.{arith, ap, pos, ◌∙◌}
use Rattle.sp_logic.specs.View.{frame_of}
use Rattle.sp_model.specs.Note.{shown}
use Rattle.sp_eval.proofs.TotalLemmas.{sum_step, sum_so_far}
use Rattle.sp_eval.proofs.memory.sum_of.Goals as goal

pub loop-address-preserved : goal.loop-address-preserved
loop-address-preserved c = record {
  whole = sum_step (shown (frame_of c.args.frame) c.args.machine.now.cells) c.loop-address.sum c.from-sum.result c.loop-address.address _ _ _ (ap pos c.from-sum.ensures ∙ c.byte_at.ensures) (omega arith) c.loop-address.invariant.whole;
  small = omega (arith, c.loop-address.auto.address);
}

pub returns : goal.returns
returns c = sum_so_far _ c.loop-address.sum _ _ _ (omega arith) c.loop-address.invariant.whole
