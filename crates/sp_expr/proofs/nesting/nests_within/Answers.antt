use Rattle.std.proofs.Common.{sym, ◌∙◌}
use Rattle.sp_expr.specs.code.States.{nests_of}
use Rattle.sp_expr.proofs.ScanLaws.{nests_within-more, nests_within-not, nests_within-all}
use Rattle.sp_expr.proofs.nesting.nests_within.Goals as goal

pub returns-then-not-may_follow : goal.returns-then-not-may_follow
returns-then-not-may_follow c =
    sym (nests_within-not (nests_of c.loop-word.nesting) c.args.words.now c.loop-word.word-index c.word-item.result c.loop-word-test.true c.word-item.is (sym c.may_follow.ensures ∙ c.if-not-may_follow.true)) ∙ c.loop-word.invariant

pub loop-word-preserved : goal.loop-word-preserved
loop-word-preserved c =
    nests_within-more (nests_of c.loop-word.nesting) (nests_of c.step.new.self) c.args.words.now c.loop-word.word-index c.word-item.result c.loop-word-test.true c.word-item.is
    (sym c.may_follow.ensures ∙ c.if-not-may_follow.false) c.step.ensures
    ∙ c.loop-word.invariant

pub returns : goal.returns
returns c = sym (nests_within-all (nests_of c.loop-word.nesting) c.args.words.now c.loop-word.word-index c.loop-word-test.false) ∙ c.loop-word.invariant
