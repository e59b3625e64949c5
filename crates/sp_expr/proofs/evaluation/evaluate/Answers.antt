use Rattle.std.proofs.Common.{sym, ap, ◌∙◌}
use Rattle.std.specs.Prelude.{nat_eq}
use Rattle.std.specs.Cmp.Lexicographic.{pointwise}
use Rattle.indexmap.specs.IndexMap.{get}
use Rattle.sp_expr.specs.code.States.{view}
use Rattle.sp_expr.specs.code.Evaluation.{finished}
use Rattle.sp_expr.proofs.RunLaws.{fits-next, fits-more, run-more, run-all}
use Rattle.sp_expr.proofs.evaluation.evaluate.Goals as goal

pub step-requires : goal.step-requires
step-requires c = fits-next _ c.args.words.now c.loop-word.word-index c.word-item.result c.loop-word-test.true c.word-item.is c.loop-word.invariant.1

pub loop-word-preserved : goal.loop-word-preserved
loop-word-preserved c = (
  run-more (λ name. get (pointwise nat_eq) c.args.names.now name) c.args.here (view c.loop-word.evaluation) (view c.step.new.self) c.args.words.now c.loop-word.word-index c.word-item.result c.loop-word-test.true c.word-item.is c.step.ensures ∙ c.loop-word.invariant.0,
  fits-more (λ name. get (pointwise nat_eq) c.args.names.now name) c.args.here (view c.loop-word.evaluation) (view c.step.new.self) c.args.words.now c.loop-word.word-index c.word-item.result c.loop-word-test.true c.word-item.is c.step.ensures c.loop-word.invariant.1,
)

pub returns : goal.returns
returns c = c.value.ensures ∙ ap finished (sym (run-all _ c.args.here _ c.args.words.now c.loop-word.word-index c.loop-word-test.false) ∙ c.loop-word.invariant.0)
