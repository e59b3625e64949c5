use Rattle.sp_isa_laws.proofs.SetLemmas.{are_sets}
use Rattle.sp_isa_laws.proofs.laws.locations_form_sets.Goals as goal

pub returns : goal.returns
returns c = are_sets
