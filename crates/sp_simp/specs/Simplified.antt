-- A condition as the simplifier leaves it (this project's own).
use Rattle.std.specs.Prelude.{◌≡◌, Bool, true, false, if◌then◌else◌, ◌||◌, List, [], ◌∷◌, ◌++◌}
use Rattle.std.specs.List.{AllZip}
use Rattle.sp_term.specs.Tree.{Tree, Truth, And}
use Rattle.sp_term.specs.Sorts.{Formula, HasSort}
use Rattle.sp_term.specs.Admissible.{Condition}
use Rattle.sp_simp.specs.Same.{tree_eq}
use Rattle.sp_simp.specs.Simple.{IsSimpleForm}

abbrev pub IsFormula : Tree → Type 0
IsFormula p = HasSort p Formula

-- what `and` joins, one after another
abbrev pub conjuncts : Tree → List Tree
conjuncts (And p q) = conjuncts p ++ conjuncts q
conjuncts p = p ∷ []

unfoldable pub all_conjuncts : List Tree → List Tree
all_conjuncts [] = []
all_conjuncts (p ∷ ps) = conjuncts p ++ all_conjuncts ps

-- whether a formula stands in a list
unfoldable pub stands_in : List Tree → Tree → Bool
stands_in [] p = false
stands_in (q ∷ qs) p = tree_eq q p || stands_in qs p

-- the formulas of the second list that are not true and stand neither in the first list nor before in the second
unfoldable pub fresh : List Tree → List Tree → List Tree
fresh known [] = []
fresh known (p ∷ ps) = if tree_eq (Truth true) p || stands_in known p then fresh known ps else p ∷ fresh (known ++ p ∷ []) ps

-- no goal is left where a hypothesis is false
abbrev pub goals_left : List Tree → List Tree → List Tree
goals_left hypotheses goals = if stands_in hypotheses (Truth false) then [] else fresh hypotheses goals

-- Every formula is made simple and split at each `and`. Hypotheses that are true or stand before go; goals that are true, a
-- hypothesis or stand before go. What is known of memories stays.
pub record IsSimplified (c r : Condition) : Type 0 where
  pub hypotheses : (hs : List Tree) × AllZip IsSimpleForm c.hypotheses hs × (r.hypotheses ≡ fresh [] (all_conjuncts hs))
  pub goals : (gs : List Tree) × AllZip IsSimpleForm c.goals gs × (r.goals ≡ goals_left r.hypotheses (all_conjuncts gs))
  pub changes : r.changes ≡ c.changes
