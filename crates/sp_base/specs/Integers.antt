-- Whole numbers: division that rounds down, the low byte, and what holds over a range (this project's own).
use Rattle.std.specs.Prelude.{◌≡◌, ℕ, zero, suc, ◌%◌, ◌==◌, ◌⊎◌, ℤ, pos, negsuc, neg_ℤ, ◌+ℤ◌, ◌*ℤ◌, ◌<ℤ◌, ◌≤ℤ◌, Bool, true, false, ◌&&◌, ◌||◌, if◌then◌else◌, bit_and, bit_or, bit_xor, count_ones, unsigned_abs}
use Rattle.std.specs.Int.{int_gap, int_div_euclid, int_rem_euclid}

-- the quotient rounded down; it is 0 by 0
abbrev pub quotient : ℤ → ℤ → ℤ
quotient x (pos zero) = pos 0
quotient x (pos (suc n)) = int_div_euclid x (pos (suc n))
quotient x (negsuc n) = int_div_euclid (neg_ℤ x) (pos (suc n))

-- what the quotient leaves over; it is 0 by 0
abbrev pub remainder : ℤ → ℤ → ℤ
remainder x (pos zero) = pos 0
remainder x (pos (suc n)) = int_rem_euclid x (pos (suc n))
remainder x (negsuc n) = neg_ℤ (int_rem_euclid (neg_ℤ x) (pos (suc n)))

-- q times the divisor y and the rest r are x, and r lies between 0 and y, or is 0
pub record IsDivision (x y q r : ℤ) : Type 0 where
  pub whole : x ≡ q *ℤ y +ℤ r
  pub between : ((pos 0 ≤ℤ r) × (r <ℤ y)) ⊎ ((y <ℤ r) × (r ≤ℤ pos 0))

-- a number modulo 256
abbrev pub low_byte : ℤ → ℕ
low_byte z = unsigned_abs (int_rem_euclid z (pos 256))

-- the bits of two numbers modulo 256: those of both, of either, and of one alone
abbrev pub byte_and : ℤ → ℤ → ℤ
byte_and x y = pos (bit_and (low_byte x) (low_byte y))

abbrev pub byte_or : ℤ → ℤ → ℤ
byte_or x y = pos (bit_or (low_byte x) (low_byte y))

abbrev pub byte_xor : ℤ → ℤ → ℤ
byte_xor x y = pos (bit_xor (low_byte x) (low_byte y))

-- 1 where a number modulo 256 has an even number of ones, and else 0
abbrev pub parity : ℤ → ℤ
parity z = if count_ones (low_byte z) % 2 == 0 then pos 1 else pos 0

-- how many whole numbers there are from one through another
abbrev pub count_between : ℤ → ℤ → ℕ
count_between low high = int_gap low (high +ℤ pos 1)

-- the sum of a function over so many numbers from z on
unfoldable pub sum_from : (ℤ → ℤ) → ℤ → ℕ → ℤ
sum_from f z zero = pos 0
sum_from f z (suc n) = f z +ℤ sum_from f (z +ℤ pos 1) n

-- a test passes at each of so many numbers from z on
unfoldable pub all_from : (ℤ → Bool) → ℤ → ℕ → Bool
all_from p z zero = true
all_from p z (suc n) = p z && all_from p (z +ℤ pos 1) n

-- a test passes at one of so many numbers from z on
unfoldable pub some_from : (ℤ → Bool) → ℤ → ℕ → Bool
some_from p z zero = false
some_from p z (suc n) = p z || some_from p (z +ℤ pos 1) n

-- the sum of a function over the whole numbers from one through another
abbrev pub sum_between : (ℤ → ℤ) → ℤ → ℤ → ℤ
sum_between f low high = sum_from f low (count_between low high)

-- a test passes at each whole number from one through another
abbrev pub all_between : (ℤ → Bool) → ℤ → ℤ → Bool
all_between p low high = all_from p low (count_between low high)

-- a test passes at some whole number from one through another
abbrev pub some_between : (ℤ → Bool) → ℤ → ℤ → Bool
some_between p low high = some_from p low (count_between low high)
