use Rattle.sp_expr.proofs.SentenceLaws.{spelled_is_sentence}
use Rattle.sp_expr.proofs.TreeLaws.{sentence_is_spelled}
use Rattle.sp_expr.proofs.laws.sentences_are_expressions.Goals as goal

pub returns : goal.returns
returns c setting ws = (sentence_is_spelled setting ws, λ found. spelled_is_sentence setting ws found.0 found.1)
