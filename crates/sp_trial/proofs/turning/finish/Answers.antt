use Rattle.std.proofs.Common.{inr, refl, subst}
use Rattle.sp_trial.specs.Judged.{AreTrueIn}
use Rattle.sp_trial.specs.code.Courses.{evaluation}
use Rattle.sp_trial.proofs.turning.finish.Goals as goal

pub returns-in-AllTrue : goal.returns-in-AllTrue
returns-in-AllTrue c =
    inr (inr (subst (AreTrueIn (evaluation c.args.plan.now c.args.machine.now)) c.as_slice.ensures c.in-AllTrue.ensures, refl))
