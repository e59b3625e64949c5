-- Numbers of bits.
use Rattle.std.specs.Prelude.{ℕ, nat_le, if◌then◌else◌, ℤ, pos, negsuc, Option, Some, None}

-- a number from 0 to 7
abbrev pub digit : ℤ → Option ℕ
digit (pos k) = if nat_le k 7 then Some k else None
digit (negsuc k) = None
