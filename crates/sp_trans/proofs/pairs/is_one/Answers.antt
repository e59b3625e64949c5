use Rattle.sp_trans.proofs.EqualityLemmas.{same_is}
use Rattle.sp_trans.proofs.pairs.is_one.Goals as goal

pub returns : goal.returns
returns c = same_is c.same.result c.args.x.now c.args.y.now c.same.ensures
