-- What is looked at of an entry apart from its preconditions.
use Rattle.std.specs.Prelude.{◌≡◌, ℕ, ◌+◌, ◌<◌, ◌≤◌, false, Some}
use Rattle.std.specs.FinMap as maps
use Rattle.sp_base.specs.Image.{ImageMap}
use Rattle.sp_isa.specs.Core.{Core, cell}
use Rattle.sp_prog.specs.declared.routine.Routine.{Routine}
use Rattle.sp_prog.specs.Program.{Program}
use Rattle.sp_prog.specs.Rules.{address_of}

-- the image is in memory below an address
abbrev pub IsLoadedBelow : ℕ → ImageMap → Core → Type 0
IsLoadedBelow end image core = (a byte : ℕ) → a < end → maps.get image a ≡ Some byte → cell a core ≡ byte

-- the whole image is in memory
abbrev pub IsLoaded : ImageMap → Core → Type 0
IsLoaded image core = (a byte : ℕ) → maps.get image a ≡ Some byte → cell a core ≡ byte

-- the stack region has room for the return address and the routine's bytes
pub record HasRoom (p : Program) (depth sp : ℕ) : Type 0 where
  pub below : p.first + depth ≤ sp
  pub above : sp + 1 ≤ p.last

-- the image is loaded, the program counter is at the routine, which isn't halted and has room
pub record Begins (p : Program) (r : Routine) (core : Core) : Type 0 where
  pub loaded : IsLoaded p.image core
  pub begins : core.pc ≡ address_of r
  pub running : core.halted ≡ false
  pub room : r.start ≡ false → HasRoom p r.depth core.sp
