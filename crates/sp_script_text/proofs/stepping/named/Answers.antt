use Rattle.std.proofs.Common.{rules}
use Rattle.sp_script_text.proofs.ListLemmas.{named_refused}
use Rattle.sp_script_text.proofs.stepping.named.Goals as goal

pub returns-in-Err : goal.returns-in-Err
returns-in-Err c = named_refused c.in-Err.refusal c.loop-rest.named.items c.loop-rest.rest.now c.args.text.now (search rules) c.in-Err.ensures c.loop-rest.invariant
