use Rattle.sp_isa.proofs.CodeLemmas.{nothing_decodes}
use Rattle.sp_isa.proofs.laws.unused_bytes_decode_to_nothing.Goals as goal

pub returns : goal.returns
returns c = nothing_decodes
