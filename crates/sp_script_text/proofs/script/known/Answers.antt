use Rattle.std.proofs.Common.{sym, ◌∙◌}
use Rattle.sp_script_text.proofs.TableLemmas.{known_more}
use Rattle.sp_script_text.proofs.script.known.Goals as goal

pub loop-script-preserved : goal.loop-script-preserved
loop-script-preserved c =
    known_more c.args.counts.now c.args.scripts.now c.as_slice-script-items.result.now c.as_slice-script-items.ensures c.loop-script.script-index c.script-item.result c.loop-script.invariant c.loop-script-test.true c.script-item.is
    (sym c.is_counted.ensures ∙ c.if-not-is_counted.false)
