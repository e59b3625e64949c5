use Rattle.sp_stmt.proofs.ExactLaws.{exact-one}
use Rattle.sp_stmt.proofs.GrammarLaws.{statement_exact}
use Rattle.sp_stmt.proofs.laws.a_line_is_one_statement.Goals as goal

pub returns : goal.returns
returns c source number tokens one other h k = exact-one (statement_exact source number tokens) one other h k
