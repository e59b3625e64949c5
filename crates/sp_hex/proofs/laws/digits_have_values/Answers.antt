use Rattle.std.proofs.Common.{refl}
use Rattle.sp_hex.proofs.RecordLaws.{digit_only}
use Rattle.sp_hex.proofs.WrittenLaws.{digit_back, digit_lower}
use Rattle.sp_hex.proofs.laws.digits_have_values.Goals as goal

pub returns-clause-upper : goal.returns-clause-upper
returns-clause-upper c = digit_back

pub returns-clause-lower : goal.returns-clause-lower
returns-clause-lower c = digit_lower

pub returns-clause-only : goal.returns-clause-only
returns-clause-only c = digit_only

pub returns-clause-ends : goal.returns-clause-ends
returns-clause-ends c = refl
