use Rattle.std.proofs.Common.{◌≡◌, ◌-◌, ◌*◌, ◌≤◌, pos}
use Rattle.std.specs.Prelude.{◌+ℤ◌}
use Rattle.sp_base.specs.Integers.{sum_from}
use Rattle.sp_logic.specs.View.{frame_of}
use Rattle.sp_model.specs.Note.{shown}
use Rattle.sp_eval.proofs.memory.sum_of.Given as goal

-- the sum so far and that of the cells to come are the whole sum
abbrev pub invariant-loop-address : goal.invariant-loop-address
invariant-loop-address l = record {
  whole : pos l.sum +ℤ sum_from (shown (frame_of l.frame) l.machine.cells) (pos l.address) (l.end - l.address) ≡ sum_from (shown (frame_of l.frame) l.machine.cells) (pos l.first) (l.end - l.first);
  small : l.sum ≤ 255 * (l.address - l.first);
}
