use Rattle.sp_unit_laws.proofs.UnitLemmas.{units_by_example}
use Rattle.sp_unit_laws.proofs.laws.units_by_example.Goals as goal

pub returns : goal.returns
returns c = units_by_example
