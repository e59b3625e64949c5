use Rattle.sp_linear.proofs.FormLemmas.{comparison_form, equation_form, negated_form}
use Rattle.sp_linear.proofs.laws.forms_mean_their_formulas.Goals as goal

pub returns-clause-comparison : goal.returns-clause-comparison
returns-clause-comparison c = comparison_form

pub returns-clause-equation : goal.returns-clause-equation
returns-clause-equation c = equation_form

pub returns-clause-negated : goal.returns-clause-negated
returns-clause-negated c = negated_form
