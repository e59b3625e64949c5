use Rattle.sp_isa.proofs.OutcomeLemmas.{instructions_lead}
use Rattle.sp_isa.proofs.laws.instructions_lead.Goals as goal

pub returns : goal.returns
returns c = instructions_lead
