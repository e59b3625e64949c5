use Rattle.std.proofs.Common.{sym, rules}
use Rattle.sp_hex.proofs.DigitLaws.{reads_on, reads_none, reads_all, shorter}
use Rattle.sp_hex.proofs.reading.spell.Goals as goal

pub loop-rest-smaller : goal.loop-rest-smaller
loop-rest-smaller c = shorter c.loop-rest.rest.now c.in-Some.after.now c.in-Some.byte (sym c.in-Some.ensures)

pub loop-rest-preserved : goal.loop-rest-preserved
loop-rest-preserved c = reads_on c.loop-rest.bytes.items _ c.loop-rest.rest.now c.in-Some.after.now c.in-Some.byte _ (search rules) (sym c.in-Some.ensures) c.in_ok-push-in-Some.ensures.items c.loop-rest.invariant

pub returns-in-None : goal.returns-in-None
returns-in-None c = sym (reads_none c.loop-rest.bytes.items c.loop-rest.rest.now _ (search rules) (sym c.in-None.ensures) c.loop-rest.invariant)

pub returns : goal.returns
returns c = sym (reads_all c.loop-rest.bytes.items c.loop-rest.rest.now _ (search rules) c.loop-rest.invariant)
