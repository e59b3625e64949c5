use Rattle.sp_isa.proofs.MoveLemmas.{flags_are_a_byte}
use Rattle.sp_isa.proofs.laws.flags_are_a_byte.Goals as goal

pub returns : goal.returns
returns c = flags_are_a_byte
