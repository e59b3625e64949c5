use Rattle.sp_isa.proofs.UndoLemmas.{conditions_are_opposites}
use Rattle.sp_isa.proofs.laws.conditions_are_opposites.Goals as goal

pub returns : goal.returns
returns c = conditions_are_opposites
