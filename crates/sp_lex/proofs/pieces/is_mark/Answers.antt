use Rattle.sp_lex.proofs.pieces.is_mark.Goals as goal

pub returns-then-annotation : goal.returns-then-annotation
returns-then-annotation c = rw c.if-annotation.true c.contains.ensures.value
