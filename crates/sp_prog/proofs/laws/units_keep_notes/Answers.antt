use Rattle.sp_prog.proofs.ExampleLemmas.{units_keep_notes}
use Rattle.sp_prog.proofs.laws.units_keep_notes.Goals as goal

pub returns : goal.returns
returns c = units_keep_notes
