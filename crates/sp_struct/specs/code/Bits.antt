-- Sets of numbers, 64 to a word.
use Rattle.std.specs.Prelude.{◌≡◌, ◌<◌, ◌≤◌, ℕ, ◌/◌, ◌%◌, nat_eq, bit_or, Bool, List, slice_index_or, length}
use Rattle.std.specs.Int.{bit_at}

-- whether a number is in a set
abbrev pub has : List ℕ → ℕ → Bool
has words i = nat_eq (bit_at (slice_index_or words (i / 64) 0) (i % 64)) 1

-- the first words are joined with those of another set
pub record JoinedBefore (old other : List ℕ) (at : ℕ) (new : List ℕ) : Type 0 where
  pub size : length new ≡ length old
  pub joined : (w : ℕ) → w < at → slice_index_or new w 0 ≡ bit_or (slice_index_or old w 0) (slice_index_or other w 0)
  pub kept : (w : ℕ) → at ≤ w → slice_index_or new w 0 ≡ slice_index_or old w 0
