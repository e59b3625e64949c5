-- What the definitions of runs ask of a program, and each unit keeps.
use Rattle.std.specs.Prelude.{◌≡◌, ◌↔◌, ℕ, ◌+◌, ◌<◌, ◌≤◌, length, None, Contains, IsTrue}
use Rattle.std.specs.FinMap as maps
use Rattle.sp_base.specs.declared.location.Loc.{Loc}
use Rattle.sp_base.specs.declared.locs.Locs.{Locs}
use Rattle.sp_base.specs.Locs.{has}
use Rattle.sp_isa.specs.Code.{code, valid}
use Rattle.sp_model.specs.Good.{InArea}
use Rattle.sp_model.specs.Unit.{Area, Stmt, Routine, Unit}
use Rattle.sp_prog.specs.Program.{Program}
use Rattle.sp_prog.specs.Rules.{HasBytes, IsUnit}
use Rattle.sp_prog.specs.View.{locs_of, unit_of}

-- an address of the stack region
abbrev pub InStack : Unit → ℕ → Type 0
InStack u a = (u.first ≤ a) × (a ≤ u.last)

-- the image has no byte there
abbrev pub HasNoByte : Unit → ℕ → Type 0
HasNoByte u a = maps.get u.image a ≡ None

-- areas, the stack region and the image are apart
pub record IsApart (u : Unit) : Type 0 where
  -- the stack region has a cell, and an address stands after it
  pub ordered : u.first ≤ u.last
  pub last : u.last ≤ 65534
  pub stack : (a : ℕ) → InStack u a → HasNoByte u a
  pub areas : (area : Area) → Contains u.areas area → (a : ℕ) → InArea a area → ¬ InStack u a
  pub changed : (r : Routine) (area : Area) → Contains u.routines r → Contains r.changes.areas area → (a : ℕ) → InArea a area → HasNoByte u a
  -- what is listed is an area of the unit
  pub read_areas : (r : Routine) (area : Area) → Contains u.routines r → Contains r.reads.areas area → Contains u.areas area
  pub changed_areas : (r : Routine) (area : Area) → Contains u.routines r → Contains r.changes.areas area → Contains u.areas area

-- an instruction of a routine
abbrev pub IsOf : Unit → Routine → Stmt → Type 0
IsOf u r i = Contains u.routines r × Contains r.code i

-- each routine begins with an instruction of its own, whose codes stand in the image, and an address is of one instruction
pub record HasCode (u : Unit) : Type 0 where
  pub begins : (r : Routine) → Contains u.routines r → (i : Stmt) × Contains r.code i × (i.address ≡ r.address)
  pub codes : (r : Routine) (i : Stmt) → IsOf u r i → IsTrue (valid i.instr) × HasBytes u.image i.address (code i.instr)
  pub one : (r q : Routine) (i j : Stmt) → IsOf u r i → IsOf u q j → (k m : ℕ) → k < length (code i.instr) → m < length (code j.instr)
      → i.address + k ≡ j.address + m → (r ≡ q) × (i ≡ j)

-- so each unit is
pub record UnitsArePrograms : Type 0 where
  pub apart : (p : Program) → IsUnit p → IsApart (unit_of p)
  pub code : (p : Program) → IsUnit p → HasCode (unit_of p)

-- the locations of a list are those of its set
abbrev pub ListsHaveTheirLocations : Type 0
ListsHaveTheirLocations = (locs : Locs) (x : Loc) → Contains (locs_of locs) x ↔ IsTrue (has x locs)
