-- Cells in order of their addresses, and what is found among cells.
use Rattle.std.proofs.Common.{◌≡◌, ◌≢◌, ℕ, ◌<◌, Bool, true, false, ◌&&◌, T, List, ◌∷◌, Option, Some, None, rules}
use Rattle.std.specs.Ordering.{nat_cmp, is_lt}
use Rattle.std.specs.FinMap.{find}

abbrev pub Cells : Type 0
Cells = List (ℕ × ℕ)

pub here : (c : ℕ × ℕ) (cells : Cells) → find nat_cmp c.0 (c ∷ cells) ≡ Some c.1
here c cells = search rules

pub other : (q : ℕ) (c : ℕ × ℕ) (cells : Cells) → q ≢ c.0 → find nat_cmp q (c ∷ cells) ≡ find nat_cmp q cells
other q c cells ne = search rules

pub some_is_not_none : (x : ℕ) (o : Option ℕ) → o ≡ Some x → o ≡ None → ⊥
some_is_not_none x o some none = cc

-- the two parts of a test that cells are in order
pub order_parts : (x y : Bool) → T (x && y) → T x × T y
order_parts true y h = (tt, h)
order_parts false y h = absurd h

pub less : (a b : ℕ) → T (is_lt (nat_cmp a b)) → a < b
less a b h = search rules
