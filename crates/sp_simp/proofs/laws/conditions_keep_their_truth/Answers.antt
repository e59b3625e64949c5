use Rattle.sp_simp.proofs.ConditionLemmas.{simplified_one, simplified_true}
use Rattle.sp_simp.proofs.laws.conditions_keep_their_truth.Goals as goal

pub returns : goal.returns
returns c = record { one = simplified_one; truth = λ stack e p q w h g s. simplified_true stack e w p q h g s }
