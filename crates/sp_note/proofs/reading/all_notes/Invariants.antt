use Rattle.std.proofs.Common.{◌≡◌, ◌+◌, drop}
use Rattle.sp_note.specs.Parts.{lines_of}
use Rattle.sp_note.specs.code.Lines.{notes_from, notes_of}
use Rattle.sp_note.proofs.LineLemmas.{in_order}
use Rattle.sp_note.proofs.reading.all_notes.Given as goal

abbrev pub invariant-loop-i : goal.invariant-loop-i
invariant-loop-i l = in_order (lines_of l.notes.items) (notes_from l.source (l.i + 1) (drop l.i l.lines)) ≡ notes_of l.source l.lines
