use Rattle.sp_script_laws.proofs.ShownLemmas.{shown_true}
use Rattle.sp_script_laws.proofs.laws.shown_conditions_are_true.Goals as goal

pub returns : goal.returns
returns c = shown_true
