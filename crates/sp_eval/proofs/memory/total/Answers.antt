use Rattle.std.proofs.Common.{◌∙◌, pos, subst}
use Rattle.std.specs.Prelude.{◌+ℤ◌}
use Rattle.std.specs.Int.{w128}
use Rattle.std.proofs.lemmas.Int.{to_z-of_z}
use Rattle.sp_logic.specs.View.{frame_of}
use Rattle.sp_eval.specs.code.Small.{IsClamped}
use Rattle.sp_eval.proofs.TotalLemmas.{total_is, total_none}
use Rattle.sp_eval.proofs.memory.total.Goals as goal

pub returns-then-first-end : goal.returns-then-first-end
returns-then-first-end c = c.sum_of.ensures ∙ total_is (frame_of c.args.frame) c.args.machine.now.cells c.args.low c.args.high c.clamped-first.result c.clamped_end-end.result c.requires.memory
    (subst (λ z. IsClamped z c.clamped-first.result) (to_z-of_z w128 c.args.low c.ranges.low) c.clamped-first.ensures)
    (subst (λ z. IsClamped (z +ℤ pos 1) c.clamped_end-end.result) (to_z-of_z w128 c.args.high c.ranges.high) c.clamped_end-end.ensures)
    c.if-first-end.true

pub returns-else-first-end : goal.returns-else-first-end
returns-else-first-end c = total_none (frame_of c.args.frame) c.args.machine.now.cells c.args.low c.args.high c.clamped-first.result c.clamped_end-end.result c.requires.memory
    (subst (λ z. IsClamped z c.clamped-first.result) (to_z-of_z w128 c.args.low c.ranges.low) c.clamped-first.ensures)
    (subst (λ z. IsClamped (z +ℤ pos 1) c.clamped_end-end.result) (to_z-of_z w128 c.args.high c.ranges.high) c.clamped_end-end.ensures)
    c.if-first-end.false
