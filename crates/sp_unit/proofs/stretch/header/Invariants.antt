use Rattle.std.proofs.Common.{◌≡◌}
use Rattle.sp_unit.specs.Lines.{header, ends_header}
use Rattle.sp_unit.specs.code.Entries.{entry_of, entries_of}
use Rattle.sp_unit.proofs.LineLemmas.{stretch}
use Rattle.sp_unit.proofs.stretch.header.Given as goal

abbrev pub invariant-loop-i : goal.invariant-loop-i
invariant-loop-i l = stretch entry_of ends_header l.i l.below ≡ header (entries_of l.below)
