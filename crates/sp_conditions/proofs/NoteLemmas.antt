-- Annotations without words of the stack speak of any number of them.
use Rattle.std.proofs.Common.{◌≡◌, ℕ, Bool, true, false, List, refl, get_or}
use Rattle.std.specs.Prelude.{◌||◌}
use Rattle.sp_logic.specs.View.{note_of}
use Rattle.sp_model.specs.Note as note
use Rattle.sp_model.specs.Note.{Quantity, Note}
use Rattle.sp_prog.specs.declared.routine.Noted.{Noted}
use Rattle.sp_prog.specs.Rules.{has_word, note_has_word, HaveNoWords}
use Rattle.sp_trans.specs.Formulas.{QuantityFits, NoteFits}
use Rattle.sp_conditions.specs.code.Notes.{NotesFit}

either : (a b : Bool) → (a || b) ≡ false → (a ≡ false) × (b ≡ false)
either false b h = (refl, h)
either true b h = absurd cc

quantity_fits : (n : ℕ) (x : Quantity) → has_word x ≡ false → QuantityFits n x
quantity_fits n (note.Literal k) h = tt
quantity_fits n (note.Location m x) h = tt
quantity_fits n (note.Pair m p) h = tt
quantity_fits n (note.Cell m x) h = quantity_fits n x h
quantity_fits n (note.StackWord k) h = absurd cc
quantity_fits n (note.Total m x y) h =
    let e = either (has_word x) (has_word y) h in (quantity_fits n x e.0, quantity_fits n y e.1)
quantity_fits n (note.Negative x) h = quantity_fits n x h
quantity_fits n (note.Parity x) h = quantity_fits n x h
quantity_fits n (note.Operate o x y) h =
    let e = either (has_word x) (has_word y) h in (quantity_fits n x e.0, quantity_fits n y e.1)
quantity_fits n (note.Bound name) h = tt

pub note_fits : (n : ℕ) (p : Note) → note_has_word p ≡ false → NoteFits n p
note_fits n (note.Constant truth) h = tt
note_fits n (note.Compare c x y) h =
    let e = either (has_word x) (has_word y) h in (quantity_fits n x e.0, quantity_fits n y e.1)
note_fits n (note.Not p) h = note_fits n p h
note_fits n (note.Connect c p q) h =
    let e = either (note_has_word p) (note_has_word q) h in (note_fits n p e.0, note_fits n q e.1)
note_fits n (note.Quantify q name x y p) h =
    let e = either (has_word x) (has_word y || note_has_word p) h in
    let f = either (has_word y) (note_has_word p) e.1 in
    (quantity_fits n x e.0, quantity_fits n y f.0, note_fits n p f.1)

-- annotations without words fit
pub all_fit : (n : ℕ) (notes : List Noted) → HaveNoWords notes → NotesFit n notes
all_fit n notes h i d l = note_fits n (note_of (get_or notes i d).note) (h i d l)
