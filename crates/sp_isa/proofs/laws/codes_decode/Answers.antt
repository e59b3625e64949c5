use Rattle.sp_isa.proofs.CodeLemmas.{decodes_codes}
use Rattle.sp_isa.proofs.laws.codes_decode.Goals as goal

pub returns : goal.returns
returns c = decodes_codes
