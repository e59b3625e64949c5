use Rattle.sp_trial.specs.code.Courses.{setup_of}
use Rattle.sp_trial.proofs.RunLemmas.{Follows}
use Rattle.sp_trial.proofs.trying.follow.Given as goal

abbrev pub invariant-loop-steps : goal.invariant-loop-steps
invariant-loop-steps l = Follows (setup_of l.plan l.fn.inputs) l.steps l.machine l.rest
