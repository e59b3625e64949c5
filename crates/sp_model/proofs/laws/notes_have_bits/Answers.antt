use Rattle.sp_model.proofs.NoteLemmas.{bits}
use Rattle.sp_model.proofs.laws.notes_have_bits.Goals as goal

pub returns : goal.returns
returns c = bits
