use Rattle.sp_unit.proofs.LineLemmas.{places_are_found}
use Rattle.sp_unit.proofs.laws.places_are_found.Goals as goal

pub returns : goal.returns
returns c = places_are_found
