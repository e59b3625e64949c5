use Rattle.sp_reading_laws.proofs.TreeLemmas.{have_one_tree}
use Rattle.sp_reading_laws.proofs.laws.expressions_have_one_tree.Goals as goal

pub returns : goal.returns
returns c = have_one_tree
