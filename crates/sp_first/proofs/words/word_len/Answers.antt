use Rattle.std.proofs.Common.{sym, ◌∙◌, refl, arith}
use Rattle.sp_first.proofs.WordLaws.{word_more_at}
use Rattle.sp_first.proofs.words.word_len.Goals as goal

pub loop-n-preserved : goal.loop-n-preserved
loop-n-preserved c = (
  c.loop-n.n,
  refl,
  word_more_at c.args.line.now c.loop-n.n c.loop-n.invariant.0 c.loop-n.invariant.1 c.loop-n.invariant.2 (omega arith) c.if-line-n-ne58.true
      (sym c.is_blank.ensures ∙ c.if-not-is_blank.true) (sym c.is_mark-then-not-is_blank.ensures ∙ c.if-not-is_mark.true),
)
