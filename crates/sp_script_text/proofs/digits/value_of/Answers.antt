use Rattle.std.proofs.Common.{sym, ◌∙◌, arith}
use Rattle.sp_fdl.proofs.NumberLemmas.{value_from-too_large}
use Rattle.sp_script_text.proofs.digits.value_of.Goals as goal

pub returns-in_default-clause-value : goal.returns-in_default-clause-value
returns-in_default-clause-value c =
    sym (value_from-too_large 4294967295 c.loop-byte.value c.args.digits.now c.loop-byte.byte-index c.digit_of-digit.result c.loop-byte-test.true
    (sym c.digit_of-digit.ensures) (omega arith) (sym c.in_default.ensures))
    ∙ c.loop-byte.invariant.0
