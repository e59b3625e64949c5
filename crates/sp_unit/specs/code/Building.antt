-- What the code has built of a unit, so far.
use Rattle.std.specs.Prelude.{◌≡◌, ℕ, nat_eq, bytes_eq, List, [], ◌∷◌, ◌++◌, fold, find, is_some, Bool, true, Some, map, IsPermutation, if◌then◌else◌}
use Rattle.std.specs.Cmp.Lexicographic.{pointwise}
use Rattle.std.specs.List.{filter_map, list_any, list_all, AllZip}
use Rattle.std.specs.List.Sorted.{IsStrictlyIncreasing}
use Rattle.std.specs.Map.{lookup}
use Rattle.sp_base.specs.Locs as locations
use Rattle.sp_asm.specs.declared.listing.Listing.{Listing}
use Rattle.sp_asm.specs.Meanings.{each_once}
use Rattle.sp_note.specs.declared.part.Listed.{Listed}
use Rattle.sp_note.specs.declared.part.Listed.TheVariants as listed
use Rattle.sp_note.specs.declared.part.NoteLine.{NoteLine}
use Rattle.sp_prog.specs.declared.area.Area.{Area}
use Rattle.sp_prog.specs.declared.routine.Routine.{Routine}
use Rattle.sp_prog.specs.Rules.{address_of}
use Rattle.sp_unit.specs.declared.scope.Scope.{Scope}
use Rattle.sp_unit.specs.declared.lists.Access.{Access}
use Rattle.sp_unit.specs.declared.lists.Mentioned.{Mentioned}
use Rattle.sp_unit.specs.declared.statements.Coding.{Coding}
use Rattle.sp_unit.specs.Faults.{Source}
use Rattle.sp_unit.specs.Lines.{Entry, is_instruction}
use Rattle.sp_unit.specs.Origin.{said_by}
use Rattle.sp_unit.specs.code.Scopes.{IsScope, source_of}
use Rattle.sp_unit.specs.code.Sounds.{listed_by}
use Rattle.sp_unit.specs.SourceUnits.{Raw, Begun, IsNoted, IsCoded, StandsAt, raws, assert_in, with_locs, area_name, named_in, coded, begun, IsRoutineOf}

-- the table has the place of an area of each name
pub record ArePlaces (areas : List Area) (entries : List (List ℕ × ℕ)) : Type 0 where
  pub right : (name : List ℕ) (place : ℕ) → lookup (pointwise nat_eq name) entries ≡ Some place → StandsAt areas name place
  pub each : (name : List ℕ) → is_some (lookup (pointwise nat_eq name) entries) ≡ is_some (find (λ (a : Area). bytes_eq a.name name) areas)

-- an item is no area, or the table has its place
abbrev pub is_placed : List (List ℕ × ℕ) → Listed → Bool
is_placed entries (listed.Locs locs) = true
is_placed entries (listed.Area name) = is_some (lookup (pointwise nat_eq name) entries)

-- the areas that a line lists have places
abbrev pub IsPlacedLine : List (List ℕ × ℕ) → Access → Entry → Type 0
IsPlacedLine places by e = list_all (is_placed places) (named_in (listed_by by) (e ∷ [])) ≡ true

-- these items are mentioned
pub record IsMentioned (areas : List Area) (items : List Listed) (m : Mentioned) : Type 0 where
  pub locs : m.locs ≡ fold with_locs locations.none items
  pub places : AllZip (StandsAt areas) (each_once (filter_map area_name items)) m.areas.items
  pub seen : (name : List ℕ) → is_some (lookup (pointwise nat_eq name) m.seen.entries) ≡ list_any (pointwise nat_eq name) (filter_map area_name items)

-- the assertions that stand after the last instruction of lines, with these before them
abbrev pub waiting : List Raw → List Entry → List Raw
waiting asserts lines = fold (λ asserts e. if is_instruction e then [] else asserts ++ raws assert_in (e ∷ [])) asserts lines

-- the instructions of these lines, and the assertions after them
pub record AreCoded (s : Source) (lines : List Entry) (c : Coding) : Type 0 where
  pub code : AllZip (IsCoded s) (coded [] lines) c.code.items
  pub asserts : AllZip (IsNoted s) (waiting [] lines) c.asserts.items

-- a `routine` line
abbrev pub begun_line : List ℕ → ℕ → List Entry → Begun
begun_line name line below = record { name = name; line = line; below = below }

-- these are the routines of lines by rising address
pub record HasRoutines (s : Source) (areas : List Area) (entries : List Entry) (routines : List Routine) : Type 0 where
  pub found : List Routine
  pub each : AllZip (IsRoutineOf s areas) (begun entries) found
  pub permutation : IsPermutation found routines
  pub rising : IsStrictlyIncreasing (map address_of routines)

-- a scope of a source
pub record IsScopeOf (listing : Listing) (notes : List NoteLine) (scope : Scope) : Type 0 where
  pub known : IsScope scope
  pub source : source_of scope ≡ said_by listing notes
