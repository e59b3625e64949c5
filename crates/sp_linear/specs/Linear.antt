-- The step `linear` of scripts (this project's own).
use Rattle.std.specs.Prelude.{◌≡◌, ◌≢◌, ℕ, ◌+◌, ◌*◌, ◌≤◌, ◌<◌, ◌^◌, max, ℤ, pos, ◌<ℤ◌, ◌≤ℤ◌, Bool, true, false, Option, Some, None, List, [], ◌∷◌, map, ◌⊎◌, unsigned_abs}
use Rattle.std.specs.Borrow.{Bor}
use Rattle.std.specs.List.{AllByRecursion}
use Rattle.sp_term.specs.Tree.{Tree, Literal, Add, Subtract, Multiply, Equal, Less, LessOrEqual, Not}
use Rattle.sp_linear.specs.Polynomials.{coefficient_in, size, count}

-- ---- forms
-- the form of a hypothesis `not p`
abbrev pub form_of_not : Tree → Option Tree
form_of_not (Less y x) = Some (Subtract y x)
form_of_not (LessOrEqual y x) = Some (Subtract (Subtract y x) (Literal (pos 1)))
form_of_not p = None

-- the form of a hypothesis: where it is true, that of `x = y` is 0, and each other one at least 0
abbrev pub form_of : Tree → Option Tree
form_of (LessOrEqual x y) = Some (Subtract y x)
form_of (Less x y) = Some (Subtract (Subtract y x) (Literal (pos 1)))
form_of (Equal x y) = Some (Subtract y x)
form_of (Not p) = form_of_not p
form_of p = None

-- the negated goal: where the goal is false, it is at least 0
abbrev pub negated : Tree → Option Tree
negated (LessOrEqual x y) = Some (Subtract (Subtract x y) (Literal (pos 1)))
negated (Less x y) = Some (Subtract x y)
negated p = None

abbrev pub is_equality : Tree → Bool
is_equality (Equal x y) = true
is_equality p = false

-- ---- the sum
-- the hypothesis has this form, and its multiplier may stand before it: only an equation takes a negative one
pub record IsAllowed (multiplier : ℤ) (hypothesis form : Tree) : Type 0 where
  pub has_form : form_of hypothesis ≡ Some form
  pub sign : (pos 0 ≤ℤ multiplier) ⊎ (is_equality hypothesis ≡ true)

-- the sum of the multipliers times the forms, as a term
pub data IsSum : List (ℤ × Tree) → Tree → Type 0 where
  Nothing : IsSum [] (Literal (pos 0))
  One : (c : ℤ) (h : Tree) (hs : List (ℤ × Tree)) (form sum : Tree) → IsAllowed c h form → IsSum hs sum →
      IsSum ((c, h) ∷ hs) (Add (Multiply (Literal c) form) sum)

-- ---- the two ways
-- the polynomial of a term is a negative number without atoms
pub record IsNegative (t : Tree) : Type 0 where
  pub number : coefficient_in [] t <ℤ pos 0
  pub others : (p : List Tree) → p ≢ [] → coefficient_in p t ≡ pos 0

-- The first way: the sum, with the negated goal taken N0 times, is a negative number. A goal that has no negated goal may
-- stand where N0 is 0.
pub data Contradicts (n0 : ℤ) (sum : Tree) : Tree → Type 0 where
  Alone : (goal : Tree) → n0 ≡ pos 0 → IsNegative sum → Contradicts n0 sum goal
  WithGoal : (goal against : Tree) → negated goal ≡ Some against → IsNegative (Add (Multiply (Literal n0) against) sum) →
      Contradicts n0 sum goal

-- the second way: the sum of equations is N0 times the goal `x = y`
pub record IsCombined (n0 : ℤ) (by : List (ℤ × Tree)) (sum x y : Tree) : Type 0 where
  pub positive : pos 1 ≤ℤ n0
  pub equations : AllByRecursion (λ h. is_equality h.1 ≡ true) by
  pub same_sum : (p : List Tree) → coefficient_in p sum ≡ coefficient_in p (Multiply (Literal n0) (Subtract y x))

pub data Concludes (n0 : ℤ) (by : List (ℤ × Tree)) (sum : Tree) : Tree → Type 0 where
  ByContradiction : (goal : Tree) → Contradicts n0 sum goal → Concludes n0 by sum goal
  ByEquations : (x y : Tree) → IsCombined n0 by sum x y → Concludes n0 by sum (Equal x y)

-- ---- the limits
-- a measure of the two sides of a comparison, plus 1
abbrev pub sides_of_not : Tree → (Tree → ℕ) → ℕ
sides_of_not (Less x y) measure = measure x + measure y + 1
sides_of_not (LessOrEqual x y) measure = measure x + measure y + 1
sides_of_not p measure = 0

abbrev pub hypothesis_sides : Tree → (Tree → ℕ) → ℕ
hypothesis_sides (LessOrEqual x y) measure = measure x + measure y + 1
hypothesis_sides (Less x y) measure = measure x + measure y + 1
hypothesis_sides (Equal x y) measure = measure x + measure y + 1
hypothesis_sides (Not p) measure = sides_of_not p measure
hypothesis_sides p measure = 0

abbrev pub goal_sides : Tree → (Tree → ℕ) → ℕ
goal_sides (LessOrEqual x y) measure = measure x + measure y + 1
goal_sides (Less x y) measure = measure x + measure y + 1
goal_sides (Equal x y) measure = measure x + measure y + 1
goal_sides p measure = 0

abbrev pub sizes : List (ℤ × Tree) → ℕ
sizes [] = 0
sizes (h ∷ hs) = hypothesis_sides h.1 size * max 1 (unsigned_abs h.0) + sizes hs

abbrev pub counts : List (ℤ × Tree) → ℕ
counts [] = 0
counts (h ∷ hs) = hypothesis_sides h.1 count + counts hs

-- the size of the step is below 2 to the power 120, and its count at most 1,024
pub record IsSmall (n0 : ℤ) (by : List (ℤ × Tree)) (goal : Tree) : Type 0 where
  pub size : goal_sides goal size * max 1 (unsigned_abs n0) + sizes by < 2 ^ 120
  pub count : goal_sides goal count + counts by ≤ 1024

-- ---- the step
-- `linear N0 N1 h1 N2 h2 ..` closes the goal, by the list of each multiplier with the hypothesis named after it.
pub record Follows (n0 : ℤ) (by : List (ℤ × Tree)) (goal : Tree) : Type 0 where
  pub multiplier : pos 0 ≤ℤ n0
  pub small : IsSmall n0 by goal
  pub concludes : (sum : Tree) × IsSum by sum × Concludes n0 by sum goal

-- the multipliers and the trees of hypotheses
abbrev pub named : List (ℤ × Bor Tree) → List (ℤ × Tree)
named by = map (λ h. (h.0, h.1.now)) by
