use Rattle.std.proofs.Common.{◌≡◌, inr, refl, rules, subst}
use Rattle.sp_trial.specs.Judged.{AreTrueIn}
use Rattle.sp_trial.specs.Setup.{asserted_at}
use Rattle.sp_trial.specs.code.Courses.{evaluation}
use Rattle.sp_trial.proofs.trying.stop.Goals as goal

pub returns-in-AllTrue : goal.returns-in-AllTrue
returns-in-AllTrue c =
    let e : c.asserted_at-asserts.result.now ≡ asserted_at c.args.plan.now.routine.now.code c.args.machine.now.pc = search rules in
    inr (inr (subst (AreTrueIn (evaluation c.args.plan.now c.args.machine.now)) e c.in-AllTrue.ensures, refl))
