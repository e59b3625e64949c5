use Rattle.std.proofs.Common.{take}
use Rattle.sp_script_text.specs.Tables.{AreKnown}
use Rattle.sp_script_text.proofs.script.known.Given as goal

abbrev pub invariant-loop-script : goal.invariant-loop-script
invariant-loop-script l = AreKnown l.counts (take l.script-index l.scripts)
