-- Registers and flags.
use Rattle.sp_base.specs.declared.location.Reg.{Reg}
use Rattle.sp_base.specs.declared.location.Reg.TheVariants as reg
use Rattle.sp_base.specs.declared.location.Loc.{Loc}
use Rattle.sp_base.specs.declared.location.Loc.TheVariants as loc

-- a register as a location
abbrev pub loc_of : Reg → Loc
loc_of reg.B = loc.B
loc_of reg.C = loc.C
loc_of reg.D = loc.D
loc_of reg.E = loc.E
loc_of reg.H = loc.H
loc_of reg.L = loc.L
loc_of reg.A = loc.A
