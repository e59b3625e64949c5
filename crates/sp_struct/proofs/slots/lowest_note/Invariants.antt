use Rattle.sp_struct.specs.code.Slots.{Lowered}
use Rattle.sp_struct.proofs.slots.lowest_note.Given as goal

abbrev pub invariant-notes : goal.invariant-notes
invariant-notes l = Lowered l.depth l.notes l.place l.fn.so_far l.best
