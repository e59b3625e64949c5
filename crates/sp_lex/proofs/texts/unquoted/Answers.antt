use Rattle.std.proofs.Common.{◌++◌, sym, ap, ◌∙◌, append_assoc, arith}
use Rattle.std.proofs.lemmas.List.{append-nil}
use Rattle.sp_lex.proofs.TextLemmas.{unquoted-other, unquoted-closed, unquoted-twice, unquoted-done}
use Rattle.sp_lex.proofs.texts.unquoted.Goals as goal

pub loop-at-preserved-then-byte-ne-QUOTE : goal.loop-at-preserved-then-byte-ne-QUOTE
loop-at-preserved-then-byte-ne-QUOTE c =
    let e = unquoted-other c.args.bytes.now c.loop-at.at c.loop-at-test.true c.if-byte-ne-QUOTE.true in
    (rw (c.in_ok-push.ensures.items, append_assoc) (ap (λ rest. c.loop-at.found.items ++ rest) (sym e) ∙ c.loop-at.invariant.0), omega arith)

pub returns-then-byte_at-ne-QUOTE : goal.returns-then-byte_at-ne-QUOTE
returns-then-byte_at-ne-QUOTE c =
    let e = unquoted-closed c.args.bytes.now c.loop-at.at c.loop-at-test.true c.if-byte-ne-QUOTE.false (λ h. c.if-byte_at-ne-QUOTE.true (c.byte_at.ensures.value ∙ h)) in
    sym (append-nil c.loop-at.found.items) ∙ ap (λ rest. c.loop-at.found.items ++ rest) (sym e) ∙ c.loop-at.invariant.0

pub loop-at-preserved : goal.loop-at-preserved
loop-at-preserved c =
    let e = unquoted-twice c.args.bytes.now c.loop-at.at c.loop-at-test.true c.if-byte-ne-QUOTE.false (sym c.byte_at.ensures.value ∙ c.if-byte_at-ne-QUOTE.false) in
    (rw (c.in_ok-push-2.ensures.items, append_assoc) (ap (λ rest. c.loop-at.found.items ++ rest) (sym e) ∙ c.loop-at.invariant.0), omega (arith, c.byte_at.ensures.within))

pub returns : goal.returns
returns c =
    let e = unquoted-done c.args.bytes.now c.loop-at.at c.loop-at-test.false in
    sym (append-nil c.loop-at.found.items) ∙ ap (λ rest. c.loop-at.found.items ++ rest) (sym e) ∙ c.loop-at.invariant.0
