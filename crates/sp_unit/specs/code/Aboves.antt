-- What the code knows of the lines above one.
use Rattle.std.specs.Prelude.{◌≡◌, ℕ, min, Bool, false, List, unwrap_or, is_some, nat_eq}
use Rattle.std.specs.Cmp.Lexicographic.{pointwise}
use Rattle.std.specs.Map.{lookup}
use Rattle.std.specs.Option.{option_map}
use Rattle.sp_note.specs.Parts.{Part}
use Rattle.sp_prog.specs.declared.area.Area.{Area}
use Rattle.sp_unit.specs.declared.above.Above.{Above}
use Rattle.sp_unit.specs.Lines.{Entry, Statement, Annotation, is_routine_part, place_after}
use Rattle.sp_unit.specs.Faults.{Source, area_by, has_stack, is_area_part, is_declared, count}
use Rattle.sp_unit.specs.code.Places.{IsPlace}

-- these lines stand above, and those others below them
pub record IsAbove (a : Above) (above below : List Entry) : Type 0 where
  pub has_stack : a.has_stack ≡ has_stack above
  pub areas : a.areas ≡ min (count is_area_part above) 1024
  pub routines : a.routines ≡ min (count is_routine_part above) 1024
  pub place : IsPlace a.place (place_after above) below

-- a line declares an area, and one above has its name
abbrev pub is_second : Source → List Entry → Part → Bool
is_second s above part = unwrap_or (option_map (λ (a : Area). is_declared s above a.name) (area_by s.value part)) false

abbrev pub repeats_in : Source → List Entry → Entry → Bool
repeats_in s above (Statement item) = false
repeats_in s above (Annotation note) = is_second s above note.part

-- the table has the names of the areas that these lines declare
abbrev pub HasSeen : List (List ℕ × Unit {0}) → Source → List Entry → Type 0
HasSeen entries s above = (name : List ℕ) → is_some (lookup (pointwise nat_eq name) entries) ≡ is_declared s above name
