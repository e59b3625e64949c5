use Rattle.sp_expr.proofs.NestingLaws.{shallow, nests_shallow}
use Rattle.sp_expr.proofs.laws.sentences_nest_as_their_trees.Goals as goal

pub returns : goal.returns
returns c setting ws t h = (shallow setting ws t h, nests_shallow setting ws t h)
