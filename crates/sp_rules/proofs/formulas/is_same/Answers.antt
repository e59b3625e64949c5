use Rattle.sp_rules.proofs.FormulaLemmas.{decided}
use Rattle.sp_rules.proofs.formulas.is_same.Goals as goal

pub returns : goal.returns
returns c = decided c.args.x.now c.args.y.now c.same.result c.same.ensures
