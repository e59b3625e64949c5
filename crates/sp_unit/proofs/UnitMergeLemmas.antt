-- The lines of a source hold its statements and its annotation lines, each in their order.
use Rattle.std.proofs.Common.{◌≡◌, Bool, true, false, cond, List, [], ◌∷◌, ◌++◌, map, Option, Some, None, refl, ap, ◌∙◌}
use Rattle.std.specs.Prelude.{nat_lt}
use Rattle.std.specs.List.{filter_map, cons_option}
use Rattle.sp_asm.specs.declared.listing.Item.{Item}
use Rattle.sp_note.specs.Parts.{NoteLine}
use Rattle.sp_unit.specs.Lines.{Entry, Statement, Annotation, item_in, note_in, placed, merged}
use Rattle.sp_unit.specs.Faults.{Source, area_by, area_in, areas_by, first_of, or_else}

-- ---- Annotation lines

only_notes : (notes : List NoteLine) → filter_map note_in (map Annotation notes) ≡ notes
only_notes [] = refl
only_notes (n ∷ notes) = ap (λ l. n ∷ l) (only_notes notes)

placed_notes : (item : Item) (later : List NoteLine → List Entry) → ((ns : List NoteLine) → filter_map note_in (later ns) ≡ ns) → (notes : List NoteLine) → filter_map note_in (placed item later notes) ≡ notes
placed_notes item later h [] = h []
placed_notes item later h (n ∷ notes) = by (nat_lt item.line.0 n.line) (placed_notes item later h notes)
  where
    by : (b : Bool) → filter_map note_in (placed item later notes) ≡ notes → filter_map note_in (cond b (Statement item ∷ later (n ∷ notes)) (Annotation n ∷ placed item later notes)) ≡ n ∷ notes
    by true rest = h (n ∷ notes)
    by false rest = ap (λ l. n ∷ l) rest

pub merged_notes : (items : List Item) (notes : List NoteLine) → filter_map note_in (merged items notes) ≡ notes
merged_notes [] notes = only_notes notes
merged_notes (item ∷ items) notes = placed_notes item (merged items) (merged_notes items) notes

-- ---- Statements

no_items : (notes : List NoteLine) → filter_map item_in (map Annotation notes) ≡ []
no_items [] = refl
no_items (n ∷ notes) = no_items notes

placed_items : (item : Item) (items : List Item) (later : List NoteLine → List Entry) → ((ns : List NoteLine) → filter_map item_in (later ns) ≡ items) → (notes : List NoteLine)
    → filter_map item_in (placed item later notes) ≡ item ∷ items
placed_items item items later h [] = ap (λ l. item ∷ l) (h [])
placed_items item items later h (n ∷ notes) = by (nat_lt item.line.0 n.line) (placed_items item items later h notes)
  where
    by : (b : Bool) → filter_map item_in (placed item later notes) ≡ item ∷ items → filter_map item_in (cond b (Statement item ∷ later (n ∷ notes)) (Annotation n ∷ placed item later notes)) ≡ item ∷ items
    by true rest = ap (λ l. item ∷ l) (h (n ∷ notes))
    by false rest = rest

pub merged_items : (items : List Item) (notes : List NoteLine) → filter_map item_in (merged items notes) ≡ items
merged_items [] notes = no_items notes
merged_items (item ∷ items) notes = placed_items item items (merged items) (merged_items items) notes

-- ---- Areas, and the first line of a kind

pub areas_in : (s : Source) (es : List Entry) → filter_map (area_in s) es ≡ areas_by s.value (filter_map note_in es)
areas_in s [] = refl
areas_in s (Statement item ∷ es) = areas_in s es
areas_in s (Annotation n ∷ es) = ap (cons_option (area_by s.value n.part)) (areas_in s es)

-- an annotation line of which a test gives this
pub record Found {X : Type 0} (f : NoteLine → Option X) (x : X) (es : List Entry) : Type 0 where
  pub front : List Entry
  pub note : NoteLine
  pub back : List Entry
  pub whole : es ≡ front ++ Annotation note ∷ back
  pub is : f note ≡ Some x

pub found_first : {X : Type 0} (f : NoteLine → Option X) (x : X) (es : List Entry) → first_of f (filter_map note_in es) ≡ Some x → Found f x es
found_first f x [] h = absurd cc
found_first f x (Statement item ∷ es) h =
    let below = found_first f x es h in
    record { front = Statement item ∷ below.front; note = below.note; back = below.back; whole = ap (λ l. Statement item ∷ l) below.whole; is = below.is }
found_first {X} f x (Annotation n ∷ es) h = by (f n) refl h (found_first f x es)
  where
    by : (o : Option X) → f n ≡ o → or_else o (first_of f (filter_map note_in es)) ≡ Some x → (first_of f (filter_map note_in es) ≡ Some x → Found f x es) → Found f x (Annotation n ∷ es)
    by (Some y) e k again = record { front = []; note = n; back = es; whole = refl; is = e ∙ k }
    by None e k again =
        let below = again k in
        record { front = Annotation n ∷ below.front; note = below.note; back = below.back; whole = ap (λ l. Annotation n ∷ l) below.whole; is = below.is }
