use Rattle.std.proofs.Common.{◌≡◌, ◌≤◌, drop}
use Rattle.sp_lex.specs.Numbers.{at_most, value_from}
use Rattle.sp_lex.proofs.numbers.value_in.Given as goal

abbrev pub invariant-loop-byte : goal.invariant-loop-byte
invariant-loop-byte l =
    (at_most l.limit (value_from l.base l.value (drop l.byte-index l.digits)) ≡ at_most l.limit (value_from l.base 0 l.digits)) × (l.value ≤ l.limit)
