-- The coefficients of a polynomial as entries of a table.
use Rattle.std.specs.Prelude.{◌≡◌, ℕ, ℤ, pos, List, Vec, nat_eq, unwrap_or, IsSorted}
use Rattle.std.specs.Cmp.Lexicographic.{pointwise}
use Rattle.std.specs.Map.{lookup}
use Rattle.std.specs.Ordering.{nat_cmp}
use Rattle.std.specs.Global.{Global}
use Rattle.sp_linear.specs.Polynomials.{Monomial, coefficient}

-- what a table has at a product
abbrev pub sum_at : List (Vec ℕ Global × ℤ) → List ℕ → ℤ
sum_at es p = unwrap_or (lookup (λ k. pointwise nat_eq p k.items) es) (pos 0)

-- a table has at each product, its atoms by rising places, the coefficient in a polynomial
pub record AreSums (ms : List (Monomial ℕ)) (es : List (Vec ℕ Global × ℤ)) : Type 0 where
  pub each : (p : List ℕ) → IsSorted nat_cmp p → sum_at es p ≡ coefficient nat_eq p ms
