use Rattle.sp_isa.proofs.CodeLemmas.{no_code_begins_another}
use Rattle.sp_isa.proofs.laws.no_code_begins_another.Goals as goal

pub returns : goal.returns
returns c = no_code_begins_another
