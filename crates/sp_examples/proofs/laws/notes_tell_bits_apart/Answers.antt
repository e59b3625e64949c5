use Rattle.sp_examples.proofs.PartLemmas.{overlap}
use Rattle.sp_examples.proofs.laws.notes_tell_bits_apart.Goals as goal

pub returns : goal.returns
returns c = overlap
