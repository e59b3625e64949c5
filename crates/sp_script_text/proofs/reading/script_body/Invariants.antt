use Rattle.std.proofs.Common.{◌+◌, length}
use Rattle.sp_script_text.specs.code.Bodies.{IsPart}
use Rattle.sp_script_text.proofs.reading.script_body.Given as goal

abbrev pub invariant-loop-rest : goal.invariant-loop-rest
invariant-loop-rest l = IsPart (l.number + 1) l.text l.steps.items l.next l.rest

abbrev pub decreases-loop-rest : goal.decreases-loop-rest
decreases-loop-rest l = length l.rest
