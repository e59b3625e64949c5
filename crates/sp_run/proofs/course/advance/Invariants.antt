use Rattle.std.proofs.Common.{[]}
use Rattle.sp_run.proofs.StepLaws.{AdvancesTo}
use Rattle.sp_run.proofs.course.advance.Given as goal

abbrev pub invariant-loop-steps : goal.invariant-loop-steps
invariant-loop-steps l = AdvancesTo (record { core = l.fn.machine; inputs = l.fn.inputs; outputs = [] }) l.steps l.machine l.rest l.text.items
