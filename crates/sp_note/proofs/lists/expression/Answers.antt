use Rattle.std.proofs.lemmas.Result.{err_from_is_err_and}
use Rattle.sp_expr.specs.Words.{words_of}
use Rattle.sp_note.specs.code.Lines.{expression_of}
use Rattle.sp_note.proofs.AnswerLemmas.{parsed_ok, parsed_err, parsed_kind}
use Rattle.sp_expr.specs.declared.expr.Expr.{Expr}
use Rattle.sp_note.proofs.lists.expression.Goals as goal

pub returns-in_err-expression-clause-right : goal.returns-in_err-expression-clause-right
unfolding expression_of
returns-in_err-expression-clause-right c =
    let p = err_from_is_err_and c.from_residual.result c.from_residual.ensures.1 in
    rw (p.1, p.2) (parsed_err c.in_err-expression.field-0.0 (words_of c.args.source.now c.args.tokens.now) c.in_err-expression.ensures)

pub returns-in_err-expression-clause-kinds : goal.returns-in_err-expression-clause-kinds
returns-in_err-expression-clause-kinds c =
    let p = err_from_is_err_and c.from_residual.result c.from_residual.ensures.1 in
    rw (p.1, p.2) (parsed_kind Expr c.in_err-expression.field-0.0)

pub returns-clause-right : goal.returns-clause-right
unfolding expression_of
returns-clause-right c = parsed_ok c.in_ok-expression.expression (words_of c.args.source.now c.args.tokens.now) c.in_ok-expression.ensures
