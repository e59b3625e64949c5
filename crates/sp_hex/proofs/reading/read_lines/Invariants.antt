use Rattle.std.proofs.Common.{◌≡◌, ◌+◌, ◌≤◌, length}
use Rattle.std.specs.FinMap as maps
use Rattle.sp_base.specs.Lines.{lines}
use Rattle.sp_hex.specs.code.Reading.{reading}
use Rattle.sp_hex.proofs.reading.read_lines.Given as goal

abbrev pub invariant-loop-rest : goal.invariant-loop-rest
invariant-loop-rest l = record {
  counted : l.number + length l.rest ≤ length l.text + 1;
  so_far : reading l.number l.image (lines l.rest) ≡ reading 1 maps.empty (lines l.text);
}

abbrev pub decreases-loop-rest : goal.decreases-loop-rest
decreases-loop-rest l = length l.rest
