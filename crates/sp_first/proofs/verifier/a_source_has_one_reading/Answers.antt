use Rattle.sp_first.proofs.RightLaws.{one_reading}
use Rattle.sp_first.proofs.verifier.a_source_has_one_reading.Goals as goal

pub returns : goal.returns
returns c = one_reading
