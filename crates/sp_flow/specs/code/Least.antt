-- The first location, and the lowest cell, that is so.
use Rattle.std.specs.Prelude.{◌≡◌, ◌<◌, ◌≤◌, ◌⊎◌, ◌+◌, ℕ, Bool, true, false, List, Option, None, Some, Contains, IsTrue, slice_get}
use Rattle.sp_base.specs.declared.location.Loc.{Loc}
use Rattle.sp_base.specs.declared.locs.Locs.{Locs}
use Rattle.sp_base.specs.Locs.{has, place}
use Rattle.sp_flow.specs.Unset.{Has}
use Rattle.sp_prog.specs.declared.area.Area.{Area}
use Rattle.sp_prog.specs.Rules.{IsInArea}

-- a location is used, not listed, and left unset
pub record Lacks (used listed : Locs) (unset : ℕ) (x : Loc) : Type 0 where
  pub uses : IsTrue (has x used)
  pub is_free : has x listed ≡ false
  pub is_unset : Has (place x) unset

-- the first location that is so
pub record IsFirstLoc (Q : Loc → Type 0) (best : Option Loc) : Type 0 where
  pub found : (x : Loc) → best ≡ Some x → Q x
  pub least : (x : Loc) → Q x → (b : Loc) × (best ≡ Some b) × (place b ≤ place x)

-- the end of an area that has a cell
abbrev pub IsEndAfter : ℕ → ℕ → ℕ → Option ℕ → Type 0
IsEndAfter addr len cell None = (addr ≤ cell) → (cell < addr + len) → ⊥
IsEndAfter addr len cell (Some end) = (addr ≤ cell) × (cell < end) × (end ≡ addr + len)

-- that of an area that may be
abbrev pub IsEndAt : Option Area → ℕ → Option ℕ → Type 0
IsEndAt None cell end = end ≡ None
IsEndAt (Some area) cell end = IsEndAfter area.addr area.len cell end

-- a cell of one of these areas
abbrev pub HasCell : List Area → List ℕ → ℕ → Type 0
HasCell areas places cell = (at : ℕ) × (area : Area) × Contains places at × (slice_get areas at ≡ Some area) × IsInArea area cell

-- the cells from this one up to an end are of these areas, or the cell itself isn't
abbrev pub IsCovered : List Area → List ℕ → ℕ → Option ℕ → Type 0
IsCovered areas places cell None = HasCell areas places cell → ⊥
IsCovered areas places cell (Some end) = (cell < end) × ((c : ℕ) → cell ≤ c → c < end → HasCell areas places c)

-- a cell of either of two lists of areas
abbrev pub HasEither : List Area → List ℕ → List ℕ → ℕ → Type 0
HasEither areas one other cell = HasCell areas one cell ⊎ HasCell areas other cell

abbrev pub IsCoveredBy : List Area → List ℕ → List ℕ → ℕ → Option ℕ → Type 0
IsCoveredBy areas one other cell None = HasEither areas one other cell → ⊥
IsCoveredBy areas one other cell (Some end) = (cell < end) × ((c : ℕ) → cell ≤ c → c < end → HasEither areas one other c)

-- the lowest cell from the first one up to an end that is of neither list
abbrev pub IsLowestFree : List Area → List ℕ → List ℕ → ℕ → ℕ → Option ℕ → Type 0
IsLowestFree areas one other first end None = (c : ℕ) → first ≤ c → c < end → HasEither areas one other c
IsLowestFree areas one other first end (Some cell) =
    (first ≤ cell) × (cell < end) × (HasEither areas one other cell → ⊥)
    × ((c : ℕ) → first ≤ c → c < cell → HasEither areas one other c)

-- the least of the numbers that are so
pub record IsLeast (Q : ℕ → Type 0) (best : Option ℕ) : Type 0 where
  pub found : (n : ℕ) → best ≡ Some n → Q n
  pub least : (n : ℕ) → Q n → (b : ℕ) × (best ≡ Some b) × (b ≤ n)

-- whether a port is in a list
abbrev pub HasPort : List ℕ → ℕ → Bool → Type 0
HasPort own port true = Contains own port
HasPort own port false = Contains own port → ⊥

-- whether something isn't so
abbrev pub IsFree : Type 0 → Bool → Type 0
IsFree P true = P → ⊥
IsFree P false = P

-- a cell of an area that may be
abbrev pub CellAt : Option Area → ℕ → Type 0
CellAt None cell = ⊥
CellAt (Some area) cell = IsInArea area cell

-- one of the first things of a list is so
abbrev pub UpTo : (ℕ → ℕ → Type 0) → ℕ → ℕ → Type 0
UpTo P at n = (j : ℕ) × (j < at) × P j n
