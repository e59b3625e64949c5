use Rattle.std.proofs.Common.{◌≡◌, length}
use Rattle.std.specs.List.{list_all}
use Rattle.sp_first.specs.Words.{lines}
use Rattle.sp_first.specs.Reading.{is_short}
use Rattle.sp_first.proofs.source.lines_are_short.Given as goal

abbrev pub invariant-loop-line : goal.invariant-loop-line
invariant-loop-line l = list_all is_short (lines l.rest) ≡ list_all is_short (lines l.source)

abbrev pub decreases-loop-line : goal.decreases-loop-line
decreases-loop-line l = length (lines l.rest)
