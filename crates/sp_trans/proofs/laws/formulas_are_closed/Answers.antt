use Rattle.sp_trans.proofs.ClosedFormulaLemmas.{formulas_are_closed}
use Rattle.sp_trans.proofs.laws.formulas_are_closed.Goals as goal

pub returns : goal.returns
returns c = formulas_are_closed
