-- Bytes at successive addresses, as a record of a text or a statement of a source gives them.
use Rattle.std.specs.Prelude.{◌≡◌, ℕ, ◌+◌, Bool, true, false, if◌then◌else◌, List, [], ◌∷◌, Option, Some, None}
use Rattle.std.specs.List.{flat_map}
use Rattle.std.specs.FinMap as maps
use Rattle.sp_base.specs.Image.{ImageMap}

-- bytes at successive addresses, from this one on
pub record Data : Type 0 where
  pub address : ℕ
  pub bytes : List ℕ

-- bytes, each with its address, from an address on
abbrev pub cells_at : ℕ → List ℕ → List (ℕ × ℕ)
cells_at a [] = []
cells_at a (byte ∷ bytes) = (a, byte) ∷ cells_at (a + 1) bytes

-- all these bytes, each with its address
abbrev pub cells_of : List Data → List (ℕ × ℕ)
cells_of = flat_map (λ d. cells_at d.address d.bytes)

-- the image with these bytes from an address on, if it has none of them yet
unfoldable pub placed : ℕ → List ℕ → ImageMap → Option ImageMap
placed a [] image = Some image
placed a (byte ∷ bytes) image = if maps.contains_key image a then None else placed (a + 1) bytes (maps.insert image a byte)

-- what adding a byte at an address answered, and the images before and after it: it is put where the address has none
abbrev pub IsAdded : Bool → ImageMap → ℕ → ℕ → ImageMap → Type 0
IsAdded true old a byte new = (maps.contains_key old a ≡ false) × (new ≡ maps.insert old a byte)
IsAdded false old a byte new = (maps.contains_key old a ≡ true) × (new ≡ old)

-- what placing bytes answered, and the image that it left
abbrev pub IsPlaced : Bool → ImageMap → Option ImageMap → Type 0
IsPlaced true image read = read ≡ Some image
IsPlaced false image read = read ≡ None

-- each byte of an image is in another, at its address
abbrev pub Keeps : ImageMap → ImageMap → Type 0
Keeps image larger = (a byte : ℕ) → maps.get image a ≡ Some byte → maps.get larger a ≡ Some byte
