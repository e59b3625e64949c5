use Rattle.sp_asm.proofs.AnswerLaws.{one_of_source}
use Rattle.sp_asm.proofs.laws.a_source_has_one_assembly.Goals as goal

pub returns : goal.returns
returns c = one_of_source
