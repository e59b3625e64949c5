use Rattle.std.proofs.Common.{sym, ◌∙◌}
use Rattle.sp_expr.proofs.RunLaws.{first_undefined-more, first_undefined-found, first_undefined-none}
use Rattle.sp_expr.proofs.evaluation.first_undefined.Goals as goal

pub returns-in-Some : goal.returns-in-Some
returns-in-Some c = sym (first_undefined-found _ c.args.words.now c.loop-word.word-index c.word-item.result c.in-Some.name c.loop-word-test.true c.word-item.is (sym c.in-Some.ensures)) ∙ c.loop-word.invariant

pub loop-word-preserved : goal.loop-word-preserved
loop-word-preserved c = first_undefined-more _ c.args.words.now c.loop-word.word-index c.word-item.result c.loop-word-test.true c.word-item.is (sym c.in_default.ensures) ∙ c.loop-word.invariant

pub returns : goal.returns
returns c = sym (first_undefined-none _ c.args.words.now c.loop-word.word-index c.loop-word-test.false) ∙ c.loop-word.invariant
