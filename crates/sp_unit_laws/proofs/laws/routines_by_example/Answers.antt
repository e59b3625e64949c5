use Rattle.sp_unit_laws.proofs.RoutineLemmas.{routines_by_example}
use Rattle.sp_unit_laws.proofs.laws.routines_by_example.Goals as goal

pub returns : goal.returns
returns c = routines_by_example
