-- Places of the terms that the step makes, and their sizes.
use Rattle.std.proofs.Common.{ℕ, ◌+◌, ◌*◌, ◌<◌, ◌≤◌, ◌≡◌, ◌^◌, sym, ◌∙◌, ap, subst, max, ℤ, unsigned_abs, true, List, length, Option, Some, None, arith}
use Rattle.std.proofs.Math.Nat.{mul-le-mul}
use Rattle.sp_term.specs.Tree.{Tree, Literal, Add, Subtract, Multiply}
use Rattle.sp_term.specs.Pools.{tree_at, Grows, IsPlace}
use Rattle.sp_term.specs.declared.shape.Node.{Node}
use Rattle.sp_linear.specs.Polynomials.{size}
use Rattle.sp_linear.specs.Linear.{negated, goal_sides}
use Rattle.sp_linear.specs.code.Tests.{sum_of, is_small}
use Rattle.sp_linear.proofs.BoundLemmas.{negated_size, sum_size}
use Rattle.sp_linear.proofs.DecideLemmas.{small_from, sum_from}
use Rattle.sp_linear.specs.code.Places.{IsPlaceOf}
use Rattle.sp_linear.proofs.ExpandLemmas.{negative_of, nothing_of, weight_small}

pub place_grown : (old new : List Tree) (t : Tree) (n : ℕ) → IsPlace old t n → Grows old new → IsPlace new t n
place_grown old new t n h g = record { within = omega (arith, h.within, g.longer); is = g.same n h.within ∙ h.is }

-- ---- a tree that may be absent
pub place_is : (ts : List Tree) (o : Option Tree) (r : Option Node) (n : Node) → IsPlaceOf ts o r → r ≡ Some n → (n.0 < length ts) × (o ≡ Some (tree_at ts n.0))
place_is ts o r n h e = there ts o n (subst (IsPlaceOf ts o) e h)
  where
    there : (ts : List Tree) (o : Option Tree) (n : Node) → IsPlaceOf ts o (Some n) → (n.0 < length ts) × (o ≡ Some (tree_at ts n.0))
    there ts (Some t) n h = (h.within, ap Some (sym h.is))
    there ts None n h = absurd h

-- ---- sizes
taken : (c s n : ℕ) → s ≤ n → c * s ≤ n * c
taken c s n h = omega (arith, mul-le-mul {n₁ = c} {m₁ = s} {n₂ = c} {m₂ = n} (omega arith) h)

-- the size of the negated goal times N0, and of the sum
pub against_size : (old mid new : List Tree) (goal : Tree) (r : Option Node) (a n sum : Node) (m0 n0 : ℤ) → m0 ≡ n0 → r ≡ Some a → IsPlaceOf mid (negated goal) r → Grows old mid → sum.0 < length old →
    goal_sides goal size * max 1 (unsigned_abs n0) + size (tree_at old sum.0) ≤ 2 ^ 120 → IsPlace new (Add (Multiply (Literal m0) (tree_at mid a.0)) (tree_at mid sum.0)) n.0 → size (tree_at new n.0) ≤ 2 ^ 121
against_size old mid new goal r a n sum m0 n0 e is h g k s p =
    let whole : size (tree_at new n.0) ≡ max 1 (unsigned_abs m0) * size (tree_at mid a.0) + size (tree_at mid sum.0) = ap size p.is in
    let same : size (tree_at mid sum.0) ≡ size (tree_at old sum.0) = ap size (g.same sum.0 k) in
    let number : max 1 (unsigned_abs m0) ≡ max 1 (unsigned_abs n0) = ap (λ z. max 1 (unsigned_abs z)) e in
    let times = taken (max 1 (unsigned_abs m0)) (size (tree_at mid a.0)) (goal_sides goal size) (negated_size goal (tree_at mid a.0) (place_is mid (negated goal) r a h is).1) in
    let moved : goal_sides goal size * max 1 (unsigned_abs m0) ≡ goal_sides goal size * max 1 (unsigned_abs n0) = ap (λ z. goal_sides goal size * z) number in
    omega (arith, whole, same, times, moved, s)

-- the size of a sum of equations less N0 times the goal
pub multiple_size : (old mid new last : List Tree) (x y : Tree) (m0 n0 : ℤ) (d m n sum : Node) → m0 ≡ n0 → sum.0 < length old → (size x + size y + 1) * max 1 (unsigned_abs n0) + size (tree_at old sum.0) ≤ 2 ^ 120 →
    Grows old mid → Grows mid new → IsPlace mid (Subtract y x) d.0 → IsPlace new (Multiply (Literal m0) (tree_at mid d.0)) m.0 → IsPlace last (Subtract (tree_at new sum.0) (tree_at new m.0)) n.0 → size (tree_at last n.0) ≤ 2 ^ 121
multiple_size old mid new last x y m0 n0 d m n sum e k s g f pd pm pn =
    let whole : size (tree_at last n.0) ≡ size (tree_at new sum.0) + size (tree_at new m.0) = ap size pn.is in
    let product : size (tree_at new m.0) ≡ max 1 (unsigned_abs m0) * size (tree_at mid d.0) = ap size pm.is in
    let both : size (tree_at mid d.0) ≡ size y + size x = ap size pd.is in
    let within : sum.0 < length mid = omega (arith, k, g.longer) in
    let same : size (tree_at new sum.0) ≡ size (tree_at old sum.0) = ap size (f.same sum.0 within ∙ g.same sum.0 k) in
    let times = taken (max 1 (unsigned_abs m0)) (size (tree_at mid d.0)) (size x + size y + 1) (omega (arith, both)) in
    let moved : (size x + size y + 1) * max 1 (unsigned_abs m0) ≡ (size x + size y + 1) * max 1 (unsigned_abs n0) = ap (λ z. (size x + size y + 1) * max 1 (unsigned_abs z)) e in
    omega (arith, whole, product, same, times, moved, s)

-- the size of the whole step
pub step_size : (ts : List Tree) (by : List (ℤ × Tree)) (goal : Tree) (m0 n0 : ℤ) (r : Option Node) (s : Node) → m0 ≡ n0 → is_small n0 by goal ≡ true → IsPlaceOf ts (sum_of by) r → r ≡ Some s → goal_sides goal size * max 1 (unsigned_abs m0) + size (tree_at ts s.0) ≤ 2 ^ 120
step_size ts by goal m0 n0 r s e small h is =
    let all = (small_from n0 by goal small).size in
    let sum = sum_size by (tree_at ts s.0) (sum_from by (tree_at ts s.0) (place_is ts (sum_of by) r s h is).1) in
    let moved : goal_sides goal size * max 1 (unsigned_abs m0) ≡ goal_sides goal size * max 1 (unsigned_abs n0) = ap (λ z. goal_sides goal size * max 1 (unsigned_abs z)) e in
    omega (arith, all, sum, moved)

pub ruleset places = (place_grown)

pub ruleset sums = (place_grown)

pub ruleset tests = (negative_of, nothing_of, weight_small)

pub ruleset sizes = (place_grown)

pub ruleset ways = (place_grown)

pub ruleset wholes = (place_grown)
