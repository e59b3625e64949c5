use Rattle.std.proofs.Common.{◌≡◌, ◌+◌, ◌++◌, length}
use Rattle.sp_note.specs.Parts.{lines_of}
use Rattle.sp_unit.specs.Lines.{merged}
use Rattle.sp_unit.specs.code.Entries.{entries_of}
use Rattle.sp_unit.proofs.merge.merged.Given as goal

abbrev pub invariant-loop-first : goal.invariant-loop-first
invariant-loop-first l =
    entries_of l.all.items ++ merged l.items_below (lines_of l.notes_below) ≡ merged l.initial.items_below (lines_of l.initial.notes_below)

abbrev pub decreases-loop-first : goal.decreases-loop-first
decreases-loop-first l = length l.items_below + length l.notes_below
