use Rattle.std.proofs.Common.{sym, ◌∙◌, arith}
use Rattle.sp_lex.proofs.NumberLemmas.{value_from-too_large}
use Rattle.sp_lex.proofs.numbers.value_in.Goals as goal

pub returns-in_default : goal.returns-in_default
returns-in_default c =
    sym (value_from-too_large c.args.limit c.args.base c.loop-byte.value c.args.digits.now c.loop-byte.byte-index c.digit_of-digit.result c.loop-byte-test.true c.requires
    (sym c.digit_of-digit.ensures) (omega arith) (sym c.in_default.ensures))
    ∙ c.loop-byte.invariant.0
