use Rattle.sp_safety.proofs.PhaseLemmas.{runs_are_safe}
use Rattle.sp_safety.proofs.laws.runs_are_safe.Goals as goal

pub returns : goal.returns
returns c = runs_are_safe
