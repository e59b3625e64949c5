use Rattle.sp_prog.proofs.UnitLemmas.{units_are_programs}
use Rattle.sp_prog.proofs.laws.units_are_programs.Goals as goal

pub returns : goal.returns
returns c = units_are_programs
