-- Sets of locations.
use Rattle.std.specs.Prelude.{◌==◌, ℕ, ◌^◌, Bool}
use Rattle.std.specs.Int.{bit_at}
use Rattle.std.specs.Int.RustNames.{bit_or}
use Rattle.sp_base.specs.declared.location.Loc.{Loc}
use Rattle.sp_base.specs.declared.location.Loc.TheVariants as loc
use Rattle.sp_base.specs.declared.locs.Locs.{Locs}

-- the number of a location's bit
abbrev pub place : Loc → ℕ
place loc.A = 0
place loc.B = 1
place loc.C = 2
place loc.D = 3
place loc.E = 4
place loc.H = 5
place loc.L = 6
place loc.S = 7
place loc.Z = 8
place loc.Ac = 9
place loc.P = 10
place loc.Cy = 11

-- whether a set has a location
unfoldable pub has : Loc → Locs → Bool
has x locs = bit_at locs.0 (place x) == 1

-- the set of no location
unfoldable pub none : Locs
none = record { 0 = 0 }

-- the set of one location
unfoldable pub only : Loc → Locs
only x = record { 0 = 2 ^ place x }

-- the locations of either set
unfoldable pub both : Locs → Locs → Locs
both a b = record { 0 = bit_or a.0 b.0 }
