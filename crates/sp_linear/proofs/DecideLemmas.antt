-- The test of the whole step answers exactly.
use Rattle.std.proofs.Common.{ℕ, ◌+◌, ◌*◌, ◌^◌, ◌≤◌, ◌<◌, ◌≡◌, refl, sym, ◌∙◌, ap, ap₂, subst, max, unsigned_abs, ℤ, pos, negsuc, ◌-ℤ◌, ◌≤ℤ◌, Bool, true, false, cond, List, [], ◌∷◌, Option, Some, None, inl, inr, ◌⊎◌, ◌↔◌, arith}
use Rattle.std.specs.Prelude.{◌&&◌, ◌||◌, int_le, nat_le, nat_lt}
use Rattle.std.specs.Ordering.{int_eq}
use Rattle.std.specs.Bool.{Decides}
use Rattle.std.specs.List.{AllByRecursion}
use Rattle.std.proofs.lemmas.Int.{ints}
use Rattle.std.proofs.lemmas.Bool.{or_cases}
use Rattle.std.proofs.lemmas.Bool.Decides.{nat_tests}
use Rattle.sp_term.specs.Tree.{Tree, Literal, Add, Subtract, Multiply, Equal}
use Rattle.sp_linear.specs.Polynomials.{Monomial, number_only, times_one, coefficient, polynomial, size, count}
use Rattle.sp_simp.specs.Same.{tree_eq}
use Rattle.sp_linear.specs.Linear.{form_of, negated, is_equality, IsSum, Nothing, One, Contradicts, Alone, WithGoal, IsCombined, Concludes, ByContradiction, ByEquations, goal_sides, sizes, counts, IsSmall, Follows}
use Rattle.sp_linear.specs.code.Tests.{zero_apart, is_negative, is_nothing, plus_form, may_stand, sum_of, are_equations, against_goal, contradicts, combined, concludes, is_small, follows}
use Rattle.sp_linear.proofs.EqualityLemmas.{trees_told}
use Rattle.sp_linear.proofs.CoefficientLemmas.{coefficient-append, coefficient-minus}
use Rattle.sp_linear.proofs.LinearLemmas.{equal_true, true_equal, at_most_true}
use Rattle.sp_linear.proofs.ExactLemmas.{and_left, and_right, one_of, zero_from, zero_to, negative_exact}

same_some : {A : Type 0} (x y : A) → Some x ≡ Some y → x ≡ y
same_some x y h = cc

true_at_most : (x y : ℤ) → x ≤ℤ y → int_le x y ≡ true
true_at_most x y h = grind (arith, ints)

or_left_true : (a b : Bool) → a ≡ true → a || b ≡ true
or_left_true true b h = refl
or_left_true false b h = cc

or_right_true : (a b : Bool) → b ≡ true → a || b ≡ true
or_right_true true b h = refl
or_right_true false b h = h

sign_cases : (a b : Bool) (P : Type 0) → (a ≡ true → P) → a || b ≡ true → P ⊎ (b ≡ true)
sign_cases true b P f h = inl (f refl)
sign_cases false b P f h = inr h

either_way : {P Q R : Type 0} → P ⊎ Q → (P → R) → (Q → R) → R
either_way (inl p) f g = f p
either_way (inr q) f g = g q

level : (a b : ℤ) → a ≡ b → a -ℤ b ≡ pos 0
level a b h = omega (arith, ints)

pub below : (a b : ℕ) → nat_lt a b ≡ true → a < b
below a b h = grind (arith, nat_tests)

pub is_below : (a b : ℕ) → a < b → nat_lt a b ≡ true
is_below a b h = grind (arith, nat_tests)

pub up_to : (a b : ℕ) → nat_le a b ≡ true → a ≤ b
up_to a b h = grind (arith, nat_tests)

pub is_up_to : (a b : ℕ) → a ≤ b → nat_le a b ≡ true
is_up_to a b h = grind (arith, nat_tests)

at_least_one : (n : ℤ) → int_le (pos 1) n ≡ true → pos 1 ≤ℤ n
at_least_one n h = at_most_true (pos 1) n h

-- ---- the sum
sign_from : (c : ℤ) (h : Tree) → may_stand c h ≡ true → (pos 0 ≤ℤ c) ⊎ (is_equality h ≡ true)
sign_from c h e = sign_cases (int_le (pos 0) c) (is_equality h) (pos 0 ≤ℤ c) (λ f. at_most_true (pos 0) c f) e

sign_to : (c : ℤ) (h : Tree) → (pos 0 ≤ℤ c) ⊎ (is_equality h ≡ true) → may_stand c h ≡ true
sign_to c h (inl e) = or_left_true (int_le (pos 0) c) (is_equality h) (true_at_most (pos 0) c e)
sign_to c h (inr e) = or_right_true (int_le (pos 0) c) (is_equality h) e

sum_step : (c : ℤ) (h : Tree) (hs : List (ℤ × Tree)) (f r : Option Tree) (sum : Tree) → may_stand c h ≡ true → form_of h ≡ f → ((s : Tree) → r ≡ Some s → IsSum hs s) → plus_form c f r ≡ Some sum → IsSum ((c, h) ∷ hs) sum
sum_step c h hs (Some form) (Some s) sum may is rest e =
    subst (IsSum ((c, h) ∷ hs)) (same_some _ sum e) (One c h hs form s (record { has_form = is; sign = sign_from c h may }) (rest s refl))
sum_step c h hs (Some form) None sum may is rest e = cc
sum_step c h hs None r sum may is rest e = cc

pub sum_from : (by : List (ℤ × Tree)) (sum : Tree) → sum_of by ≡ Some sum → IsSum by sum
sum_from [] sum e = subst (IsSum []) (same_some (Literal (pos 0)) sum e) Nothing
sum_from ((c, h) ∷ hs) sum e =
    elim (may_stand c h) as (λ t. may_stand c h ≡ t → cond t (plus_form c (form_of h) (sum_of hs)) None ≡ Some sum → IsSum ((c, h) ∷ hs) sum) [
      | true ↦ λ may k. sum_step c h hs (form_of h) (sum_of hs) sum may refl (λ s r. sum_from hs s r) k
      | false ↦ λ may k. cc
    ] refl e

pub sum_to : (by : List (ℤ × Tree)) (sum : Tree) → IsSum by sum → sum_of by ≡ Some sum
sum_to _ _ Nothing = refl
sum_to _ _ (One c h hs form sum allowed rest) =
    ap (λ t. cond t (plus_form c (form_of h) (sum_of hs)) None) (sign_to c h allowed.sign)
    ∙ ap₂ (λ (f r : Option Tree). plus_form c f r) allowed.has_form (sum_to hs sum rest)

-- ---- the first way
against_from : (n0 : ℤ) (sum goal : Tree) (f : Option Tree) → negated goal ≡ f → against_goal n0 sum f ≡ true → Contradicts n0 sum goal
against_from n0 sum goal (Some against) is e = WithGoal goal against is ((negative_exact (Add (Multiply (Literal n0) against) sum)).0 e)
against_from n0 sum goal None is e = cc

contradicts_from : (n0 : ℤ) (sum goal : Tree) → (contradicts n0 sum goal ≡ true) → Contradicts n0 sum goal
contradicts_from n0 sum goal h =
    either_way (or_cases (int_eq n0 (pos 0) && is_negative tree_eq (polynomial sum)) (against_goal n0 sum (negated goal)) h)
    (λ e. Alone goal (equal_true n0 (pos 0) (and_left (int_eq n0 (pos 0)) (is_negative tree_eq (polynomial sum)) e)) ((negative_exact sum).0 (and_right (int_eq n0 (pos 0)) (is_negative tree_eq (polynomial sum)) e)))
    (λ e. against_from n0 sum goal (negated goal) refl e)

contradicts_to : (n0 : ℤ) (sum goal : Tree) → Contradicts n0 sum goal → contradicts n0 sum goal ≡ true
contradicts_to n0 sum _ (Alone goal z k) =
    or_left_true (int_eq n0 (pos 0) && is_negative tree_eq (polynomial sum)) (against_goal n0 sum (negated goal)) (ap₂ (λ (a b : Bool). a && b) (true_equal n0 (pos 0) z) ((negative_exact sum).1 k))
contradicts_to n0 sum _ (WithGoal goal against is k) =
    or_right_true (int_eq n0 (pos 0) && is_negative tree_eq (polynomial sum)) (against_goal n0 sum (negated goal)) (ap (against_goal n0 sum) is ∙ (negative_exact (Add (Multiply (Literal n0) against) sum)).1 k)

-- ---- the second way
equal_from : (by : List (ℤ × Tree)) → are_equations by ≡ true → AllByRecursion (λ h. is_equality h.1 ≡ true) by
equal_from [] h = tt
equal_from (n ∷ by) h = (and_left (is_equality n.1) (are_equations by) h, equal_from by (and_right (is_equality n.1) (are_equations by) h))

equal_to : (by : List (ℤ × Tree)) → AllByRecursion (λ h. is_equality h.1 ≡ true) by → are_equations by ≡ true
equal_to [] h = refl
equal_to (n ∷ by) h = ap₂ (λ (a b : Bool). a && b) h.0 (equal_to by h.1)

difference : (p : List Tree) (s t : Tree) → coefficient tree_eq p (polynomial (Subtract s t)) ≡ coefficient tree_eq p (polynomial s) -ℤ coefficient tree_eq p (polynomial t)
difference p s t = omega (arith, ints, coefficient-append tree_eq p (polynomial s) (times_one (number_only (negsuc 0)) (polynomial t)), coefficient-minus tree_eq p (polynomial t))

none_at : (ms : List (Monomial Tree)) → is_nothing tree_eq ms ≡ true → (p : List Tree) → coefficient tree_eq p ms ≡ pos 0
none_at ms h [] = equal_true (coefficient tree_eq [] ms) (pos 0) (and_left (int_eq (coefficient tree_eq [] ms) (pos 0)) (zero_apart tree_eq ms ms) h)
none_at ms h (a ∷ p) = one_of (coefficient tree_eq (a ∷ p) ms) (zero_from tree_eq trees_told ms (a ∷ p) (λ e. cc) ms (and_right (int_eq (coefficient tree_eq [] ms) (pos 0)) (zero_apart tree_eq ms ms) h))

same_from_nothing : (s t : Tree) → is_nothing tree_eq (polynomial (Subtract s t)) ≡ true → (p : List Tree) → coefficient tree_eq p (polynomial s) ≡ coefficient tree_eq p (polynomial t)
same_from_nothing s t h p = omega (arith, ints, difference p s t, none_at (polynomial (Subtract s t)) h p)

nothing_from_same : (s t : Tree) → ((p : List Tree) → coefficient tree_eq p (polynomial s) ≡ coefficient tree_eq p (polynomial t)) → is_nothing tree_eq (polynomial (Subtract s t)) ≡ true
nothing_from_same s t h =
    let all : (p : List Tree) → coefficient tree_eq p (polynomial (Subtract s t)) ≡ pos 0 = λ p. difference p s t ∙ level (coefficient tree_eq p (polynomial s)) (coefficient tree_eq p (polynomial t)) (h p) in
    ap₂ (λ (a b : Bool). a && b) (true_equal (coefficient tree_eq [] (polynomial (Subtract s t))) (pos 0) (all [])) (zero_to tree_eq (polynomial (Subtract s t)) (λ p some. all p) (polynomial (Subtract s t)))

combined_from : (n0 : ℤ) (by : List (ℤ × Tree)) (sum goal : Tree) → combined n0 by sum goal ≡ true → Concludes n0 by sum goal
combined_from n0 by sum (Equal x y) h =
    let right = Multiply (Literal n0) (Subtract y x) in
    let rest = and_right (int_le (pos 1) n0) (are_equations by && is_nothing tree_eq (polynomial (Subtract sum right))) h in
    let first = and_left (int_le (pos 1) n0) (are_equations by && is_nothing tree_eq (polynomial (Subtract sum right))) h in
    ByEquations x y (record {
      positive = at_least_one n0 first;
      equations = equal_from by (and_left (are_equations by) (is_nothing tree_eq (polynomial (Subtract sum right))) rest);
      same_sum = same_from_nothing sum right (and_right (are_equations by) (is_nothing tree_eq (polynomial (Subtract sum right))) rest);
    })
combined_from n0 by sum goal h = cc

combined_to : (n0 : ℤ) (by : List (ℤ × Tree)) (sum x y : Tree) → IsCombined n0 by sum x y → combined n0 by sum (Equal x y) ≡ true
combined_to n0 by sum x y c =
    ap₂ (λ (a b : Bool). a && b) (true_at_most (pos 1) n0 c.positive)
    (ap₂ (λ (a b : Bool). a && b) (equal_to by c.equations) (nothing_from_same sum (Multiply (Literal n0) (Subtract y x)) c.same_sum))

-- ---- the limits and the whole
pub small_from : (n0 : ℤ) (by : List (ℤ × Tree)) (goal : Tree) → is_small n0 by goal ≡ true → IsSmall n0 by goal
small_from n0 by goal h =
    let a = goal_sides goal size * max 1 (unsigned_abs n0) + sizes by in
    let b = goal_sides goal count + counts by in
    record { size = below a (2 ^ 120) (and_left (nat_lt a (2 ^ 120)) (nat_le b 1024) h); count = up_to b 1024 (and_right (nat_lt a (2 ^ 120)) (nat_le b 1024) h) }

pub small_to : (n0 : ℤ) (by : List (ℤ × Tree)) (goal : Tree) → IsSmall n0 by goal → is_small n0 by goal ≡ true
small_to n0 by goal h = ap₂ (λ (a b : Bool). a && b) (is_below (goal_sides goal size * max 1 (unsigned_abs n0) + sizes by) (2 ^ 120) h.size) (is_up_to (goal_sides goal count + counts by) 1024 h.count)

concludes_from : (n0 : ℤ) (by : List (ℤ × Tree)) (goal : Tree) (s : Option Tree) → sum_of by ≡ s → concludes n0 by goal s ≡ true → (sum : Tree) × IsSum by sum × Concludes n0 by sum goal
concludes_from n0 by goal (Some sum) is h = (
  sum,
  sum_from by sum is,
  either_way (or_cases (contradicts n0 sum goal) (combined n0 by sum goal) h)
      (λ e. ByContradiction goal (contradicts_from n0 sum goal e))
      (λ e. combined_from n0 by sum goal e),
)
concludes_from n0 by goal None is h = cc

concludes_to : (n0 : ℤ) (by : List (ℤ × Tree)) (sum goal : Tree) → Concludes n0 by sum goal → concludes n0 by goal (Some sum) ≡ true
concludes_to n0 by sum _ (ByContradiction goal c) = or_left_true (contradicts n0 sum goal) (combined n0 by sum goal) (contradicts_to n0 sum goal c)
concludes_to n0 by sum _ (ByEquations x y c) = or_right_true (contradicts n0 sum (Equal x y)) (combined n0 by sum (Equal x y)) (combined_to n0 by sum x y c)

follows_from : (n0 : ℤ) (by : List (ℤ × Tree)) (goal : Tree) → follows n0 by goal ≡ true → Follows n0 by goal
follows_from n0 by goal h =
    let rest = and_right (int_le (pos 0) n0) (is_small n0 by goal && concludes n0 by goal (sum_of by)) h in
    record {
      multiplier = at_most_true (pos 0) n0 (and_left (int_le (pos 0) n0) (is_small n0 by goal && concludes n0 by goal (sum_of by)) h);
      small = small_from n0 by goal (and_left (is_small n0 by goal) (concludes n0 by goal (sum_of by)) rest);
      concludes = concludes_from n0 by goal (sum_of by) refl (and_right (is_small n0 by goal) (concludes n0 by goal (sum_of by)) rest);
    }

follows_to : (n0 : ℤ) (by : List (ℤ × Tree)) (goal : Tree) → Follows n0 by goal → follows n0 by goal ≡ true
follows_to n0 by goal f =
    ap₂ (λ (a b : Bool). a && b) (true_at_most (pos 0) n0 f.multiplier)
    (ap₂ (λ (a b : Bool). a && b) (small_to n0 by goal f.small) (ap (concludes n0 by goal) (sum_to by f.concludes.0 f.concludes.1) ∙ concludes_to n0 by f.concludes.0 goal f.concludes.2))

-- the test decides the step
pub follows_exact : (n0 : ℤ) (by : List (ℤ × Tree)) (goal : Tree) → Decides (follows n0 by goal) (Follows n0 by goal)
follows_exact n0 by goal = (follows_from n0 by goal, follows_to n0 by goal)

-- a list of hypotheses has one sum
pub one_sum : (by : List (ℤ × Tree)) (s t : Tree) → IsSum by s → IsSum by t → s ≡ t
one_sum by s t h k = same_some s t (sym (sum_to by s h) ∙ sum_to by t k)

pub follows_decides : (n0 : ℤ) (by : List (ℤ × Tree)) (goal : Tree) → (follows n0 by goal ≡ true) ↔ Follows n0 by goal
follows_decides n0 by goal = (follows_from n0 by goal, follows_to n0 by goal)
