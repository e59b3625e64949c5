use Rattle.std.proofs.Common.{sym, ◌∙◌, arith}
use Rattle.sp_lex.proofs.TextLemmas.{text_rest-begins, text_rest-other, text_rest-closed, text_rest-twice, text_rest-open}
use Rattle.sp_lex.proofs.texts.text_rest.Goals as goal

pub loop-len-init : goal.loop-len-init
loop-len-init c = (text_rest-begins c.args.bytes.now, omega arith, tt)

pub loop-len-preserved-then-bytes-len-ne-QUOTE : goal.loop-len-preserved-then-bytes-len-ne-QUOTE
loop-len-preserved-then-bytes-len-ne-QUOTE c = (
  sym (text_rest-other c.args.bytes.now c.loop-len.len c.loop-len.closed c.loop-len-test.true c.if-bytes-len-ne-QUOTE.true) ∙ c.loop-len.invariant.0,
  omega arith,
  c.loop-len.invariant.2,
)

pub returns-then-byte_at-ne-QUOTE-clause-value : goal.returns-then-byte_at-ne-QUOTE-clause-value
returns-then-byte_at-ne-QUOTE-clause-value c =
    sym (text_rest-closed c.args.bytes.now c.loop-len.len c.loop-len.closed c.loop-len-test.true c.if-bytes-len-ne-QUOTE.false (λ h. c.if-byte_at-ne-QUOTE.true (c.byte_at.ensures.value ∙ h)))
    ∙ c.loop-len.invariant.0

pub loop-len-preserved : goal.loop-len-preserved
loop-len-preserved c = (
  sym (text_rest-twice c.args.bytes.now c.loop-len.len c.loop-len.closed c.loop-len-test.true c.if-bytes-len-ne-QUOTE.false (sym c.byte_at.ensures.value ∙ c.if-byte_at-ne-QUOTE.false)) ∙ c.loop-len.invariant.0,
  omega (arith, c.byte_at.ensures.within),
  omega arith,
)

pub returns-clause-value : goal.returns-clause-value
returns-clause-value c = sym (text_rest-open c.args.bytes.now c.loop-len.len c.loop-len.closed c.loop-len-test.false) ∙ c.loop-len.invariant.0
