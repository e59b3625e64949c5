-- Sets of registers and flags.
use Rattle.std.specs.Prelude.{◌≡◌, ◌↔◌, ◌⊎◌, false, true}
use Rattle.sp_base.specs.declared.location.Loc.{Loc}
use Rattle.sp_base.specs.declared.location.Reg.{Reg}
use Rattle.sp_base.specs.declared.locs.Locs.{Locs}
use Rattle.sp_base.specs.Location.{loc_of}
use Rattle.sp_base.specs.Locs.{has, none, only, both}
use Rattle.sp_isa.specs.Core.{Core, at, reg_of}

-- no location is in the set of none, one is in the set of it alone, and in the union of two what is in either; a register as
-- a location is that register
pub record AreSets : Type 0 where
  pub empty : (x : Loc) → has x none ≡ false
  pub single : (x y : Loc) → has y (only x) ≡ true ↔ (y ≡ x)
  pub union : (a b : Locs) (x : Loc) → has x (both a b) ≡ true ↔ ((has x a ≡ true) ⊎ (has x b ≡ true))
  pub registers : (r : Reg) (core : Core) → at (loc_of r) core ≡ reg_of r core
