use Rattle.sp_asm.proofs.AnswerLaws.{one_refusal, assembled_or_refused}
use Rattle.sp_asm.proofs.laws.causes_are_one.Goals as goal

pub returns : goal.returns
returns c = record { one = one_refusal; apart = assembled_or_refused }
