use Rattle.std.proofs.Common.{ap}
use Rattle.sp_expr.specs.declared.setting.Setting.TheVariants.{Statement}
use Rattle.sp_expr.specs.Parsing.{outcome}
use Rattle.sp_expr.specs.Undefined.{first_undefined}
use Rattle.sp_expr.proofs.ValueLaws.{value_is}
use Rattle.sp_unit.specs.Faults.{number_in}
use Rattle.sp_unit.specs.Sources.{number_of}
use Rattle.sp_unit.proofs.laws.values_are_of_trees.Goals as goal

pub returns : goal.returns
returns c entries e t spells =
    ap (λ v. number_in (outcome (first_undefined (number_of entries) e) v)) (value_is Statement (number_of entries) 0 e t spells)
