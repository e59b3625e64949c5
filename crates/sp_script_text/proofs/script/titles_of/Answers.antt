use Rattle.std.proofs.Common.{sym, ◌∙◌}
use Rattle.sp_script_text.proofs.TableLemmas.{titles_more}
use Rattle.sp_script_text.proofs.script.titles_of.Goals as goal

pub loop-script-preserved : goal.loop-script-preserved
loop-script-preserved c =
    titles_more c.args.scripts.now c.loop-script.script-index c.loop-script.titles.keys c.insert.new.self.keys c.script-item.result c.loop-script.invariant c.loop-script-test.true c.script-item.is (sym c.contains.ensures ∙ c.if-contains.false) c.in_ok-insert.ensures.keys
