use Rattle.sp_unit.proofs.UnitRulesLemmas.{unit_keeps}
use Rattle.sp_unit.proofs.laws.units_of_sources_keep_the_rules.Goals as goal

pub returns : goal.returns
returns c = unit_keeps
