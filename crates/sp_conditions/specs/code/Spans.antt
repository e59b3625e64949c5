-- An address in one of some spans of cells.
use Rattle.std.specs.Prelude.{ℕ, false, List, [], ◌∷◌}
use Rattle.sp_term.specs.Tree.{Tree, Truth, LessOrEqual, And, Or}
use Rattle.sp_trans.specs.Symbolic.{number}

-- from the first to the last address
abbrev pub between : Tree → ℕ × ℕ → Tree
between t span = And (LessOrEqual (number span.0) t) (LessOrEqual t (number span.1))

-- in one of these spans
abbrev pub among : Tree → List (ℕ × ℕ) → Tree
among t [] = Truth false
among t (span ∷ []) = between t span
among t (span ∷ next ∷ spans) = Or (between t span) (among t (next ∷ spans))
