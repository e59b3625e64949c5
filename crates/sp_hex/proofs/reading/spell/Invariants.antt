use Rattle.std.proofs.Common.{◌≡◌, length}
use Rattle.sp_hex.specs.Hex.{bytes_of}
use Rattle.sp_hex.proofs.reading.spell.Given as goal
use Rattle.sp_hex.proofs.DigitLaws.{with_front}

abbrev pub invariant-loop-rest : goal.invariant-loop-rest
invariant-loop-rest l = with_front l.bytes.items (bytes_of l.rest) ≡ bytes_of l.digits

abbrev pub decreases-loop-rest : goal.decreases-loop-rest
decreases-loop-rest l = length l.rest
