use Rattle.sp_script.proofs.FollowLemmas.{valid_where_proved}
use Rattle.sp_script.proofs.laws.proved_conditions_are_true.Goals as goal

pub returns : goal.returns
returns c image stack cond s result h = valid_where_proved image cond s result h stack
