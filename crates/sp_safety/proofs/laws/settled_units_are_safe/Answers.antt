use Rattle.sp_safety.proofs.SafeLemmas.{settled_units_are_safe}
use Rattle.sp_safety.proofs.laws.settled_units_are_safe.Goals as goal

pub returns : goal.returns
returns c = settled_units_are_safe
