use Rattle.sp_isa.proofs.LocationLemmas.{changes_only_sets}
use Rattle.sp_isa.proofs.laws.instructions_change_their_writes_alone.Goals as goal

pub returns : goal.returns
returns c = changes_only_sets
