use Rattle.std.proofs.Common.{length}
use Rattle.sp_script_text.specs.code.Bodies.{AreDone}
use Rattle.sp_script_text.proofs.reading.all_scripts.Given as goal

abbrev pub invariant-loop-rest : goal.invariant-loop-rest
invariant-loop-rest l = AreDone l.text l.scripts.items l.number l.rest

abbrev pub decreases-loop-rest : goal.decreases-loop-rest
decreases-loop-rest l = length l.rest
