use Rattle.sp_note_lines.proofs.ExpressionLemmas.{expression_breaks, breaks_expression}
use Rattle.sp_note_lines.proofs.LineLemmas.{expression_ok, expression_right}
use Rattle.sp_note_lines.proofs.laws.expressions_follow_the_grammar.Goals as goal

pub returns : goal.returns
returns c = record {
  right = λ source tokens ws. (expression_ok source tokens ws, expression_right source tokens ws);
  broken = λ source tokens kind. (expression_breaks source tokens kind, breaks_expression source tokens kind);
}
