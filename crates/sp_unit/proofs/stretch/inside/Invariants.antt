use Rattle.std.proofs.Common.{◌≡◌}
use Rattle.sp_unit.specs.Lines.{inside, is_end}
use Rattle.sp_unit.specs.code.Entries.{entry_of, entries_of}
use Rattle.sp_unit.proofs.LineLemmas.{stretch}
use Rattle.sp_unit.proofs.stretch.inside.Given as goal

abbrev pub invariant-loop-i : goal.invariant-loop-i
invariant-loop-i l = stretch entry_of is_end l.i l.below ≡ inside (entries_of l.below)
