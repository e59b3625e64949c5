use Rattle.sp_first.proofs.DigitLaws.{SoFar}
use Rattle.sp_first.proofs.lines.number_of.Given as goal

abbrev pub invariant-loop-byte : goal.invariant-loop-byte
invariant-loop-byte l = SoFar l.digits l.byte-index l.value
