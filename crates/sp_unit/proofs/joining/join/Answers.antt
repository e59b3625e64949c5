use Rattle.sp_unit.proofs.JoinedLemmas.{is_answered, is_refused}
use Rattle.sp_unit.proofs.joining.join.Goals as goal

pub returns-in_ok-built-in-Ok-clause-complete : goal.returns-in_ok-built-in-Ok-clause-complete
returns-in_ok-built-in-Ok-clause-complete c = is_answered c.args.listing.now c.args.notes.now _ c.in_ok-built-in-Ok.ensures

pub returns-in-Err-clause-complete : goal.returns-in-Err-clause-complete
returns-in-Err-clause-complete c = is_refused c.args.listing.now c.args.notes.now c.in-Err.refusal c.in-Err.ensures.complete
