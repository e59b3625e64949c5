-- Images of one byte.
use Rattle.std.specs.Prelude.{ℕ, [], ◌∷◌}
use Rattle.std.specs.FinMap as maps
use Rattle.sp_base.specs.Image.{ImageMap}

-- one byte at an address
abbrev pub one_byte : ℕ → ℕ → ImageMap
one_byte a byte = maps.from_sorted ((a, byte) ∷ [])
