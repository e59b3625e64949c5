use Rattle.sp_base.proofs.CallLemmas.{last_ends}
use Rattle.sp_base.proofs.calls.CallLog.end.Goals as goal

pub returns-in-Some : goal.returns-in-Some
returns-in-Some c = λ before last h.
    last_ends c.args.self.now.calls.items c.args.self.now.calls.len before last c.in-Some.last.now c.args.outcome c.args.self.now.calls.ok.0 h c.in-Some.ensures.value
