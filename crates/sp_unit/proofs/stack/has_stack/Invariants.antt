use Rattle.std.proofs.Common.{◌≡◌, drop}
use Rattle.sp_note.specs.Parts.{NoteLine, lines_of}
use Rattle.sp_unit.specs.Faults.{first_of, stack_by}
use Rattle.sp_unit.proofs.stack.has_stack.Given as goal

abbrev pub invariant-loop-note : goal.invariant-loop-note
invariant-loop-note l =
    first_of (λ (n : NoteLine). stack_by n.part) (lines_of (drop l.note-index l.notes)) ≡ first_of (λ (n : NoteLine). stack_by n.part) (lines_of l.notes)
