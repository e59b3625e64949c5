use Rattle.sp_hex.proofs.TextLaws.{one_image, one_refusal, never_both, always_one}
use Rattle.sp_hex.proofs.laws.one_answer.Goals as goal

pub returns-clause-image : goal.returns-clause-image
returns-clause-image c = one_image

pub returns-clause-refusal : goal.returns-clause-refusal
returns-clause-refusal c = one_refusal

pub returns-clause-apart : goal.returns-clause-apart
returns-clause-apart c = never_both

pub returns-clause-some : goal.returns-clause-some
returns-clause-some c = always_one
