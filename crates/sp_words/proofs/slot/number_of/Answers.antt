use Rattle.std.proofs.Common.{sym, ◌∙◌}
use Rattle.sp_words.proofs.SlotLemmas.{number_after-more, number_after-not, number_after-all}
use Rattle.sp_words.proofs.slot.number_of.Goals as goal

pub returns-in_default : goal.returns-in_default
returns-in_default c = sym (number_after-not c.args.digits.now c.loop-digit.digit-index c.loop-digit.number c.loop-digit-test.true (sym c.in_default.ensures.value)) ∙ c.loop-digit.invariant.same

pub loop-digit-preserved : goal.loop-digit-preserved
loop-digit-preserved c = record { small = c.in-Some.ensures.small; same = number_after-more c.args.digits.now c.loop-digit.digit-index c.loop-digit.number c.in-Some.next c.loop-digit-test.true (sym c.in-Some.ensures.value) ∙ c.loop-digit.invariant.same }

pub returns : goal.returns
returns c = sym (number_after-all c.args.digits.now c.loop-digit.digit-index c.loop-digit.number c.loop-digit-test.false) ∙ c.loop-digit.invariant.same
