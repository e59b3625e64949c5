use Rattle.sp_trial.specs.code.Courses.{evaluation}
use Rattle.sp_trial.proofs.EvaluationLemmas.{Before}
use Rattle.sp_trial.proofs.judging.judge.Given as goal

abbrev pub invariant-loop-noted : goal.invariant-loop-noted
invariant-loop-noted l = Before (evaluation l.plan l.now) l.notes l.noted-index
