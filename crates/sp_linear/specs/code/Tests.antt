-- The step `linear` as a test.
use Rattle.std.specs.Prelude.{◌+◌, ◌*◌, ◌^◌, max, ℤ, pos, Bool, true, false, if◌then◌else◌, Option, Some, None, ◌||◌, ◌&&◌, nat_le, nat_lt, int_lt, int_le, List, [], ◌∷◌, unsigned_abs}
use Rattle.std.specs.Ordering.{int_eq}
use Rattle.sp_term.specs.Tree.{Tree, Literal, Add, Subtract, Multiply, Equal}
use Rattle.sp_simp.specs.Same.{tree_eq}
use Rattle.sp_linear.specs.Polynomials.{Monomial, coefficient, polynomial, size, count}
use Rattle.sp_linear.specs.Linear.{form_of, negated, is_equality, goal_sides, sizes, counts}

abbrev pub is_empty : {A : Type 0} → List A → Bool
is_empty [] = true
is_empty (a ∷ p) = false

-- each product of a list but the empty one has the coefficient 0 in a polynomial
abbrev pub zero_apart : {A : Type 0} (same : A → A → Bool) → List (Monomial A) → List (Monomial A) → Bool
zero_apart same whole [] = true
zero_apart same whole (m ∷ ms) = (is_empty m.atoms || int_eq (coefficient same m.atoms whole) (pos 0)) && zero_apart same whole ms

abbrev pub is_negative : {A : Type 0} (same : A → A → Bool) → List (Monomial A) → Bool
is_negative same ms = int_lt (coefficient same [] ms) (pos 0) && zero_apart same ms ms

-- every product has the coefficient 0
abbrev pub is_nothing : {A : Type 0} (same : A → A → Bool) → List (Monomial A) → Bool
is_nothing same ms = int_eq (coefficient same [] ms) (pos 0) && zero_apart same ms ms

-- ---- the sum
abbrev pub plus_form : ℤ → Option Tree → Option Tree → Option Tree
plus_form c (Some form) (Some sum) = Some (Add (Multiply (Literal c) form) sum)
plus_form c (Some form) None = None
plus_form c None sum = None

abbrev pub may_stand : ℤ → Tree → Bool
may_stand c h = int_le (pos 0) c || is_equality h

abbrev pub sum_of : List (ℤ × Tree) → Option Tree
sum_of [] = Some (Literal (pos 0))
sum_of (h ∷ hs) = if may_stand h.0 h.1 then plus_form h.0 (form_of h.1) (sum_of hs) else None

abbrev pub are_equations : List (ℤ × Tree) → Bool
are_equations [] = true
are_equations (h ∷ hs) = is_equality h.1 && are_equations hs

-- ---- the two ways
abbrev pub against_goal : ℤ → Tree → Option Tree → Bool
against_goal n0 sum (Some against) = is_negative tree_eq (polynomial (Add (Multiply (Literal n0) against) sum))
against_goal n0 sum None = false

abbrev pub contradicts : ℤ → Tree → Tree → Bool
contradicts n0 sum goal = (int_eq n0 (pos 0) && is_negative tree_eq (polynomial sum)) || against_goal n0 sum (negated goal)

abbrev pub combined : ℤ → List (ℤ × Tree) → Tree → Tree → Bool
combined n0 by sum (Equal x y) =
    int_le (pos 1) n0 && (are_equations by && is_nothing tree_eq (polynomial (Subtract sum (Multiply (Literal n0) (Subtract y x)))))
combined n0 by sum goal = false

abbrev pub concludes : ℤ → List (ℤ × Tree) → Tree → Option Tree → Bool
concludes n0 by goal (Some sum) = contradicts n0 sum goal || combined n0 by sum goal
concludes n0 by goal None = false

-- ---- the limits and the whole
abbrev pub is_small : ℤ → List (ℤ × Tree) → Tree → Bool
is_small n0 by goal = nat_lt (goal_sides goal size * max 1 (unsigned_abs n0) + sizes by) (2 ^ 120) && nat_le (goal_sides goal count + counts by) 1024

abbrev pub follows : ℤ → List (ℤ × Tree) → Tree → Bool
follows n0 by goal = int_le (pos 0) n0 && (is_small n0 by goal && concludes n0 by goal (sum_of by))
