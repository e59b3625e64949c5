use Rattle.sp_base.proofs.LocsLaws.{has_only}
use Rattle.sp_base.specs.Locs.{only}
use Rattle.sp_base.proofs.locs.Locs.single.Goals as goal

pub returns-clause-members : goal.returns-clause-members
unfolding only
returns-clause-members c y = rw c.bit_of.ensures (has_only c.args.x y)
