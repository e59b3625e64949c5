use Rattle.sp_reading_laws.proofs.SourceLemmas.{divides_by_zero}
use Rattle.sp_reading_laws.proofs.laws.zero_divisors_refuse.Goals as goal

pub returns : goal.returns
returns c = divides_by_zero
