use Rattle.sp_expr.specs.Words.{words_of}
use Rattle.sp_stmt.specs.code.Expressions.{expression_of}
use Rattle.sp_stmt.proofs.AnswerLaws.{parsed}
use Rattle.sp_stmt.proofs.expression.expression.Goals as goal

pub returns : goal.returns
unfolding expression_of
returns c = parsed c.parse.result (words_of c.args.source.now c.args.tokens.now) c.parse.ensures
