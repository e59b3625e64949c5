-- The steps of calls with a choice.
use Rattle.sp_rules.specs.declared.goals.Case.{Case}
use Rattle.sp_rules.specs.declared.goals.Case.TheVariants as case
use Rattle.sp_steps.specs.Steps.{Step, CasesOf, CasesOn}

-- the step of `cases` by a hypothesis, or by a formula
abbrev pub cases_step : Case → Step
cases_step (case.Hyp k) = CasesOf k
cases_step (case.Formula p) = CasesOn p.now
