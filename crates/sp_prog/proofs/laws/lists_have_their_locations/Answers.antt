use Rattle.sp_prog.proofs.UnitLemmas.{lists_have_their_locations}
use Rattle.sp_prog.proofs.laws.lists_have_their_locations.Goals as goal

pub returns : goal.returns
returns c = lists_have_their_locations
