-- Annotations that speak of words which are on the stack.
use Rattle.std.specs.Prelude.{ℕ, List, All}
use Rattle.sp_logic.specs.View.{note_of}
use Rattle.sp_prog.specs.declared.routine.Noted.{Noted}
use Rattle.sp_trans.specs.Formulas.{NoteFits}

-- each annotation speaks of the first n words alone
abbrev pub NotesFit : ℕ → List Noted → Type 0
NotesFit n notes = All (λ (x : Noted). NoteFits n (note_of x.note)) notes
