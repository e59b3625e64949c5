use Rattle.sp_isa.proofs.CodeLemmas.{decodes_the_table}
use Rattle.sp_isa.proofs.laws.decode_is_the_table.Goals as goal

pub returns : goal.returns
returns c = decodes_the_table
