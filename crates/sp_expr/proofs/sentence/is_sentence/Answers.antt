use Rattle.std.proofs.Common.{◌+◌, sym, ◌∙◌, arith, drop}
use Rattle.sp_expr.proofs.ScanLaws.{accepts-more, accepts-none, accepts-all}
use Rattle.sp_expr.proofs.sentence.is_sentence.Goals as goal

pub returns-in_default : goal.returns-in_default
returns-in_default c =
    sym (accepts-none c.args.setting (drop (c.loop-word.word-index + 1) c.args.words.now))
    ∙ accepts-more c.args.setting c.args.words.now c.loop-word.word-index c.word-item.result c.loop-word.place c.loop-word.opened _ c.loop-word-test.true c.word-item.is c.in_default.ensures.value
    ∙ c.loop-word.invariant.0

pub loop-word-preserved : goal.loop-word-preserved
loop-word-preserved c = (
  accepts-more c.args.setting c.args.words.now c.loop-word.word-index c.word-item.result c.loop-word.place c.loop-word.opened _ c.loop-word-test.true c.word-item.is c.in-Some.ensures.value ∙ c.loop-word.invariant.0,
  omega (arith, c.in-Some.ensures.within),
)

pub returns : goal.returns
returns c = c.ends.ensures ∙ sym (accepts-all c.args.setting c.args.words.now c.loop-word.word-index c.loop-word.place c.loop-word.opened c.loop-word-test.false) ∙ c.loop-word.invariant.0
