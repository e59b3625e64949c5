-- An image in the memory of a machine.
use Rattle.std.specs.Prelude.{◌≡◌, ℕ, ◌<◌, length, Some, None}
use Rattle.std.specs.FinMap as maps
use Rattle.sp_base.specs.Image.{ImageMap}
use Rattle.sp_isa.specs.Core.{Core, cell}

-- the image is loaded: each of its bytes is in memory at its address, and nothing else is other than before
pub record IsLoaded (image : ImageMap) (old new : Core) : Type 0 where
  -- each byte of the image is at its address
  pub there : (a byte : ℕ) → maps.get image a ≡ Some byte → cell a new ≡ byte
  -- where the image has none, the byte of before is
  pub kept : (a : ℕ) → a < 65536 → maps.get image a ≡ None → cell a new ≡ cell a old
  pub same_length : length new.cells ≡ length old.cells
  -- registers, flags, stack pointer, program counter and the state of rest are as before
  pub others : new ≡ record old { cells = new.cells }
