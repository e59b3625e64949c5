use Rattle.sp_simp.proofs.RootLemmas.{same_test}
use Rattle.sp_simp.proofs.roots.same.Goals as goal

pub returns : goal.returns
returns c = same_test _ _ _ c.same.ensures
