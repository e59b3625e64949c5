-- Decimal digits, read one after another.
use Rattle.std.proofs.Common.{◌≡◌, ℕ, ◌+◌, ◌-◌, ◌*◌, ◌≤◌, List, drop, fold, refl, arith}
use Rattle.sp_first.specs.Form.{number_of}

-- the digits from place i on make the number out of this value, which has i digits
pub record SoFar (digits : List ℕ) (i value : ℕ) : Type 0 where
  pub rest : fold (λ n byte. 10 * n + (byte - 48)) value (drop i digits) ≡ number_of digits
  pub none : i ≡ 0 → value ≡ 0
  pub one : i ≤ 1 → value ≤ 9
  pub two : i ≤ 2 → value ≤ 99
  pub three : value ≤ 999

pub so_far_begins : (digits : List ℕ) → SoFar digits 0 0
so_far_begins digits = record { rest = refl; none = λ _. refl; one = λ _. omega arith; two = λ _. omega arith; three = omega arith }
