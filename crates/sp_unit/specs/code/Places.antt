-- What the code knows of the place of a line.
use Rattle.std.specs.Prelude.{◌≡◌, min, ◌||◌, List, ⊤}
use Rattle.std.specs.List.{list_any}
use Rattle.sp_unit.specs.declared.place.Header.{Header}
use Rattle.sp_unit.specs.declared.place.Body.{Body}
use Rattle.sp_unit.specs.declared.place.Place as declared
use Rattle.sp_unit.specs.declared.place.Place.TheVariants as place
use Rattle.sp_unit.specs.Lines.{Entry, is_note, is_assert_part, is_start_part, is_start, is_instruction, header, Place, Outside, InHeader, InBody}
use Rattle.sp_unit.specs.Faults.{is_depth_part, is_pre_part, is_post_part, count, after_instruction}

-- in a header, after these lines of it and above these others
pub record IsHeader (h : Header) (lines below : List Entry) : Type 0 where
  pub is_start : h.is_start ≡ (list_any is_start lines || list_any is_start (header below))
  pub starts : h.starts ≡ list_any (is_note is_start_part) lines
  pub has_depth : h.has_depth ≡ list_any (is_note is_depth_part) lines
  pub pre : h.pre ≡ min (count is_pre_part lines) 64
  pub post : h.post ≡ min (count is_post_part lines) 64

-- after the header of these lines, and after these others
pub record IsBody (b : Body) (lines more : List Entry) : Type 0 where
  pub is_start : b.is_start ≡ list_any is_start lines
  pub entered : b.entered ≡ list_any is_instruction more
  pub asserts : b.asserts ≡ min (count is_assert_part (after_instruction more)) 64

-- at this place, above these lines
abbrev pub IsPlace : declared.Place → Place → List Entry → Type 0
IsPlace place.Outside Outside below = ⊤
IsPlace (place.Header h) (InHeader lines) below = IsHeader h lines below
IsPlace (place.Body b) (InBody lines more) below = IsBody b lines more
IsPlace _ _ below = ⊥
