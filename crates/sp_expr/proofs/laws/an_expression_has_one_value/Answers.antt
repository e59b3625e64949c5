use Rattle.std.proofs.Common.{sym, ◌∙◌}
use Rattle.sp_expr.proofs.ValueLaws.{value_is}
use Rattle.sp_expr.proofs.laws.an_expression_has_one_value.Goals as goal

pub returns : goal.returns
returns c setting ws one other names here h k = sym (value_is setting names here ws one h) ∙ value_is setting names here ws other k
