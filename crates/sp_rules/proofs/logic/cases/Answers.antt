use Rattle.std.proofs.Common.{subst, sym}
use Rattle.sp_steps.specs.Next.{Applies}
use Rattle.sp_rules.specs.code.Cases.{cases_step}
use Rattle.sp_rules.proofs.logic.cases.Goals as goal

pub returns-in-Hyp : goal.returns-in-Hyp
returns-in-Hyp c = subst (λ b. Applies (cases_step b) c.args.goals c.cases_of.result) (sym c.in-Hyp.is) c.cases_of.ensures

pub returns-in-Formula : goal.returns-in-Formula
returns-in-Formula c = subst (λ b. Applies (cases_step b) c.args.goals c.cases_on.result) (sym c.in-Formula.is) c.cases_on.ensures
