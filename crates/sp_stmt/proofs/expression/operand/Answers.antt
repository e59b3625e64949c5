use Rattle.std.proofs.Common.{refl, ap}
use Rattle.std.proofs.lemmas.Result.{err_from_is_err_and}
use Rattle.sp_stmt.specs.code.Expressions.{operand_of, operand_from, expression_of}
use Rattle.sp_stmt.proofs.AnswerLaws.{refused}
use Rattle.sp_stmt.proofs.expression.operand.Goals as goal

pub returns-in_err-expression : goal.returns-in_err-expression
unfolding operand_of
returns-in_err-expression c =
    let p = err_from_is_err_and c.from_residual.result c.from_residual.ensures.1 in
    rw (p.1, p.2) (refused (operand_from c.args.kind) (λ e. refl) c.in_err-expression.field-0.0 (expression_of c.args.source.now c.args.tokens.now) c.in_err-expression.ensures)

pub returns : goal.returns
unfolding operand_of
returns c = rw c.used_as.ensures (ap (operand_from c.args.kind) c.in_ok-expression.ensures)
