use Rattle.sp_struct.proofs.RefusalLemmas.{one_refusal}
use Rattle.sp_struct.proofs.laws.units_have_one_refusal.Goals as goal

pub returns : goal.returns
returns c = one_refusal
