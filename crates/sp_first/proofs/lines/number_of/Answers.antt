use Rattle.sp_first.proofs.DigitLaws.{so_far_begins}
use Rattle.sp_first.proofs.lines.number_of.Goals as goal

pub loop-byte-init : goal.loop-byte-init
loop-byte-init c = so_far_begins _
