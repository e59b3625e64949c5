use Rattle.sp_isa_laws.proofs.DifferenceLemmas.{reads_matter}
use Rattle.sp_isa_laws.proofs.laws.locations_make_differences.Goals as goal

pub returns : goal.returns
returns c = reads_matter
