use Rattle.sp_term.specs.Conditions.{condition_of}
use Rattle.sp_script.proofs.FollowLemmas.{valid_where_proved}
use Rattle.sp_script.proofs.checking.check.Goals as goal

pub returns-clause-valid : goal.returns-clause-valid
returns-clause-valid c = valid_where_proved c.args.image.now (condition_of c.args.c) c.args.s.now c.followed.result c.followed.ensures
