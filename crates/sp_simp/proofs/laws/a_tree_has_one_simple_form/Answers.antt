use Rattle.sp_simp.proofs.OneLemmas.{simple_one}
use Rattle.sp_simp.proofs.WeightLemmas.{simple_some}
use Rattle.sp_simp.proofs.laws.a_tree_has_one_simple_form.Goals as goal

pub returns : goal.returns
returns c = record { one = λ t r s f g. simple_one f s g; some = simple_some }
