use Rattle.std.proofs.Common.{◌≡◌, ◌+◌, drop}
use Rattle.sp_stmt.specs.code.Reading.{statements_from, statements_of}
use Rattle.sp_stmt.proofs.LineLaws.{in_order}
use Rattle.sp_stmt.proofs.reading.statements.Given as goal

abbrev pub invariant-loop-i : goal.invariant-loop-i
invariant-loop-i l = in_order l.statements.items (statements_from l.source (l.i + 1) (drop l.i l.lines)) ≡ statements_of l.source l.lines
