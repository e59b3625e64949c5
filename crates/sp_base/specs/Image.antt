-- Memory images.
use Rattle.std.specs.Prelude.{◌≡◌, ℕ, ◌<◌, ◌≤◌, List, map, All, Some, None}
use Rattle.std.specs.Ordering.{nat_cmp}
use Rattle.std.specs.FinMap as maps

-- a finite map from address to byte
abbrev pub ImageMap : Type 0
ImageMap = maps.FinMap nat_cmp ℕ

-- each pair is an address of memory and a byte
pub record AreCells (cells : List (ℕ × ℕ)) : Type 0 where
  pub addresses : All (λ a. a < 65536) (map (λ c. c.0) cells)
  pub bytes : All (λ b. b < 256) (map (λ c. c.1) cells)

-- the image has bytes at addresses of memory alone
abbrev pub IsInMemory : ImageMap → Type 0
IsInMemory image = AreCells (maps.entries image)

-- this byte, with its address, is that with the least address from `from` on
pub record NextByte (image : ImageMap) (from : ℕ) (byte : ℕ × ℕ) : Type 0 where
  pub there : maps.get image byte.0 ≡ Some byte.1
  pub from_there : from ≤ byte.0
  pub least : (a : ℕ) → from ≤ a → a < byte.0 → maps.get image a ≡ None

-- there is no byte from `from` on
abbrev pub NoByteFrom : ImageMap → ℕ → Type 0
NoByteFrom image from = (a : ℕ) → from ≤ a → maps.get image a ≡ None
