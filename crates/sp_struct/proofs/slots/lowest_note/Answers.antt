use Rattle.std.proofs.Common.{◌≡◌, ◌∙◌, refl, Some, sym, length, slice_get}
use Rattle.std.proofs.lemmas.Option.{slice_get_read}
use Rattle.sp_struct.proofs.SlotLemmas.{lowered_more, lowered_kept}
use Rattle.sp_struct.proofs.slots.lowest_note.Goals as goal
use Rattle.sp_struct.proofs.slots.lowest_note.Goals.{then-note_lacks_word, else-note_lacks_word}

pub notes-preserved : goal.notes-preserved
notes-preserved c =
    let notes = c.args.notes.now in
    let n = c.index-notes-place.result in
    let here : slice_get notes c.notes.place ≡ Some n = slice_get_read notes (length notes) c.notes.place n refl c.notes-test.true c.index-notes-place.is in
    elim c.if-note_lacks_word.branch [
      | then-note_lacks_word w ↦
          rw (w.best-is, w.lower-best.ensures) (lowered_more c.args.depth.now notes c.args.so_far c.notes.place n c.notes.best c.notes.invariant here
          (sym c.note_lacks_word.ensures ∙ w.if-note_lacks_word.true))
      | else-note_lacks_word w ↦
          rw w.best-is (lowered_kept c.args.depth.now notes c.args.so_far c.notes.place n c.notes.best c.notes.invariant here
          (sym c.note_lacks_word.ensures ∙ w.if-note_lacks_word.false))
    ]
