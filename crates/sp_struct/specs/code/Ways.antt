-- Ways through places, told by rows of sets.
use Rattle.std.specs.Prelude.{◌≡◌, ◌<◌, ◌≤◌, ℕ, zero, suc, Bool, ◌||◌, ◌&&◌, List, [], slice_index_or, length}
use Rattle.sp_struct.specs.code.Bits.{has}

-- whether the row of a place has another place
abbrev pub leads : List (List ℕ) → ℕ → ℕ → Bool
leads rows i j = has (slice_index_or rows i []) j

-- whether steps lead from a place to another, through the first places alone
abbrev pub way_through : (ℕ → ℕ → Bool) → ℕ → ℕ → ℕ → Bool
way_through steps zero i j = steps i j
way_through steps (suc k) i j = way_through steps k i j || (way_through steps k i k && way_through steps k k j)

-- each row has so many words
abbrev pub AreRows : ℕ → List (List ℕ) → Type 0
AreRows words rows = (i : ℕ) → i < length rows → length (slice_index_or rows i []) ≡ words

-- the rows of the first places have what their places lead to by one place more
pub record PassedBefore (old new : List (List ℕ)) (place at : ℕ) : Type 0 where
  pub size : length new ≡ length old
  pub sizes : (i : ℕ) → length (slice_index_or new i []) ≡ length (slice_index_or old i [])
  pub passed : (i j : ℕ) → i < at → leads new i j ≡ (leads old i j || (leads old i place && leads old place j))
  pub kept : (i : ℕ) → at ≤ i → slice_index_or new i [] ≡ slice_index_or old i []

-- the rows have what their places lead to through the first places
pub record ClosedBefore (old new : List (List ℕ)) (place : ℕ) : Type 0 where
  pub size : length new ≡ length old
  pub rows : (words : ℕ) → AreRows words old → AreRows words new
  pub ways : (i j : ℕ) → i < length old → leads new i j ≡ way_through (leads old) place i j
