use Rattle.std.proofs.Common.{◌≡◌, ◌≤◌, drop}
use Rattle.sp_fdl.specs.code.Numbers.{at_most, value_from}
use Rattle.sp_fdl.proofs.numbers.value_of.Given as goal

abbrev pub invariant-loop-byte : goal.invariant-loop-byte
invariant-loop-byte l =
    (at_most l.limit (value_from l.value (drop l.byte-index l.digits)) ≡ at_most l.limit (value_from 0 l.digits)) × (l.value ≤ l.limit)
