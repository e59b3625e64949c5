use Rattle.std.proofs.Common.{◌≡◌, length, refl, arith, Some, slice_get}
use Rattle.std.proofs.lemmas.Option.{slice_get_read, slice_get_within}
use Rattle.sp_trial.specs.code.Courses.{evaluation}
use Rattle.sp_trial.proofs.EvaluationLemmas.{true_more}
use Rattle.sp_trial.proofs.judging.judge.Goals as goal

pub loop-noted-preserved : goal.loop-noted-preserved
loop-noted-preserved c =
    let notes = c.args.notes.now in
    let there : slice_get notes c.loop-noted.noted-index ≡ Some c.noted-item.result =
    slice_get_read notes (length notes) c.loop-noted.noted-index c.noted-item.result refl c.loop-noted-test.true c.noted-item.is in
    true_more (evaluation c.args.plan.now c.args.now.now) notes c.loop-noted.noted-index c.noted-item.result there c.loop-noted.invariant c.in-AllTrue.ensures

pub returns : goal.returns
returns c =
    λ k n at.
    let notes = c.args.notes.now in
    let low = slice_get_within notes k n at in
    c.loop-noted.invariant k n (let past = c.loop-noted-test.false in omega (arith, low, past)) at
