use Rattle.std.proofs.Common.{ap, ◌∙◌, get_or, arith}
use Rattle.std.specs.FinMap as maps
use Rattle.sp_first.proofs.ImageLaws.{next_byte}
use Rattle.sp_first.proofs.image.placed.Goals as goal

pub loop-n-preserved : goal.loop-n-preserved
loop-n-preserved c =
    c.in_ok-set.ensures.ok ∙ ap (λ m. maps.insert m c.loop-n.n (get_or c.args.bytes.now c.loop-n.n 0)) c.loop-n.invariant ∙ next_byte c.args.bytes.now c.loop-n.n (omega arith)
