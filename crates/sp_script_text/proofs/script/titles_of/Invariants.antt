use Rattle.sp_script_text.proofs.TableLemmas.{AreTitles}
use Rattle.sp_script_text.proofs.script.titles_of.Given as goal

abbrev pub invariant-loop-script : goal.invariant-loop-script
invariant-loop-script l = AreTitles l.scripts l.script-index l.titles.keys
