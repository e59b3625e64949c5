use Rattle.std.proofs.Common.{◌≡◌, ◌+◌, ◌≤◌, length}
use Rattle.sp_base.specs.Lines.{rows_of}
use Rattle.sp_lex.specs.code.Lines.{lines_from, lines_of}
use Rattle.sp_lex.proofs.ReadingLemmas.{joined}
use Rattle.sp_lex.proofs.reading.lines.Given as goal

abbrev pub invariant-loop-rest : goal.invariant-loop-rest
invariant-loop-rest l =
    (joined l.lines.items (lines_from l.number l.at (rows_of l.rest)) ≡ lines_of l.source) × (l.at + length l.rest ≡ length l.source) × (l.number ≤ l.at + 1)

abbrev pub decreases-loop-rest : goal.decreases-loop-rest
decreases-loop-rest l = length l.rest
