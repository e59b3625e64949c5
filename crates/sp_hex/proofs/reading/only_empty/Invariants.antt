use Rattle.std.proofs.Common.{◌≡◌, ◌+◌, ◌≤◌, length}
use Rattle.sp_base.specs.Lines.{lines}
use Rattle.sp_hex.specs.code.Reading.{empty_from}
use Rattle.sp_hex.proofs.reading.only_empty.Given as goal

abbrev pub invariant-loop-rest : goal.invariant-loop-rest
invariant-loop-rest l = record {
  counted : l.number + length l.rest ≤ l.fn.number + length l.text;
  so_far : empty_from l.number (lines l.rest) ≡ empty_from l.fn.number (lines l.text);
}

abbrev pub decreases-loop-rest : goal.decreases-loop-rest
decreases-loop-rest l = length l.rest
