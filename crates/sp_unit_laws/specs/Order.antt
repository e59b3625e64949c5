-- The lines of a source are its statements and its annotation lines, by rising line.
use Rattle.std.specs.Prelude.{◌≡◌, ◌≢◌, List, map, Contains}
use Rattle.std.specs.List.{filter_map}
use Rattle.std.specs.List.Sorted.{IsStrictlyIncreasing}
use Rattle.sp_asm.specs.declared.listing.Item.{Item}
use Rattle.sp_note.specs.Parts.{NoteLine}
use Rattle.sp_unit.specs.Lines.{Entry, line_of, item_in, note_in, merged}

-- lines rise
abbrev pub Rise : List Entry → Type 0
Rise entries = IsStrictlyIncreasing (map line_of entries)

-- statements rise, annotation lines rise, and no line is both
pub record AreApart (items : List Item) (notes : List NoteLine) : Type 0 where
  pub items_rise : IsStrictlyIncreasing (map (λ (i : Item). i.line.0) items)
  pub notes_rise : IsStrictlyIncreasing (map (λ (n : NoteLine). n.line) notes)
  pub apart : (i : Item) (n : NoteLine) → Contains items i → Contains notes n → i.line.0 ≢ n.line

pub record LinesAreMerged : Type 0 where
  pub items : (items : List Item) (notes : List NoteLine) → filter_map item_in (merged items notes) ≡ items
  pub notes : (items : List Item) (notes : List NoteLine) → filter_map note_in (merged items notes) ≡ notes
  pub rising : (items : List Item) (notes : List NoteLine) → AreApart items notes → Rise (merged items notes)
  -- there is one such list
  pub one : (entries others : List Entry) → Rise entries → Rise others → filter_map item_in entries ≡ filter_map item_in others → filter_map note_in entries ≡ filter_map note_in others → entries ≡ others
