use Rattle.sp_base.proofs.LocsLaws.{has_none}
use Rattle.sp_base.specs.Locs.{none}
use Rattle.sp_base.proofs.locs.Locs.empty.Goals as goal

pub returns-clause-members : goal.returns-clause-members
unfolding none
returns-clause-members c = has_none
