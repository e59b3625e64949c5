use Rattle.sp_term.proofs.FreeLemmas.{value_agrees}
use Rattle.sp_term.proofs.laws.values_depend_on_free_variables.Goals as goal

pub returns : goal.returns
returns c = value_agrees
