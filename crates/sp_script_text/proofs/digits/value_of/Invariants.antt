use Rattle.std.proofs.Common.{◌≡◌, ◌≤◌, drop}
use Rattle.sp_fdl.specs.code.Numbers.{at_most, value_from}
use Rattle.sp_script_text.proofs.digits.value_of.Given as goal

abbrev pub invariant-loop-byte : goal.invariant-loop-byte
invariant-loop-byte l =
    (at_most 4294967295 (value_from l.value (drop l.byte-index l.digits)) ≡ at_most 4294967295 (value_from 0 l.digits)) × (l.value ≤ 4294967295)
