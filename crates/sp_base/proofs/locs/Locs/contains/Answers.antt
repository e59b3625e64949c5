use Rattle.std.proofs.Common.{sym}
use Rattle.sp_base.proofs.LocsLaws.{has_by_bit}
use Rattle.sp_base.proofs.locs.Locs.contains.Goals as goal

pub returns : goal.returns
returns c = rw c.bit_of.ensures (sym (has_by_bit c.args.x c.args.self))
