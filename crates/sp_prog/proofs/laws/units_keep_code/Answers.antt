use Rattle.sp_prog.proofs.ExampleLemmas.{units_keep_code}
use Rattle.sp_prog.proofs.laws.units_keep_code.Goals as goal

pub returns : goal.returns
returns c = units_keep_code
