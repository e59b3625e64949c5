-- Limits of sums and products, and the sizes of parts.
use Rattle.std.proofs.Common.{ℕ, zero, suc, ◌+◌, ◌*◌, ◌<◌, ◌≤◌, ◌≡◌, ◌^◌, refl, ap, min, max, Bool, ℤ, unsigned_abs, true, false, List, [], ◌∷◌, length, take, get_or, Bor, arith}
use Rattle.std.proofs.Math.Nat.{mul-le-mul}
use Rattle.std.specs.Prelude.{nat_le, nat_lt, ◌&&◌}
use Rattle.std.proofs.lemmas.Bool.Decides.{nat_tests}
use Rattle.sp_term.specs.Tree.{Tree, Literal, Add, Subtract, Multiply}
use Rattle.sp_linear.specs.Polynomials.{size, count}
use Rattle.sp_linear.specs.Linear.{goal_sides, hypothesis_sides, is_equality, sizes, counts, named}
use Rattle.sp_linear.specs.code.Tests.{are_equations}
use Rattle.sp_linear.proofs.ExactLemmas.{same_bool}
use Rattle.sp_linear.proofs.DecideLemmas.{below, is_below, up_to, is_up_to}

pub size_positive : (t : Tree) → 1 ≤ size t
size_positive (Literal n) = omega arith
size_positive (Add x y) = omega (arith, size_positive x)
size_positive (Subtract x y) = omega (arith, size_positive x)
size_positive (Multiply x y) = omega (arith, mul-le-mul {n₁ = 1} {m₁ = 1} {n₂ = size x} {m₂ = size y} (size_positive x) (size_positive y))
size_positive t = omega arith

pub left_size : (x y : Tree) → size x ≤ size x * size y
left_size x y = omega (arith, mul-le-mul {n₁ = size x} {m₁ = 1} {n₂ = size x} {m₂ = size y} (omega arith) (size_positive y))

pub right_size : (x y : Tree) → size y ≤ size x * size y
right_size x y = omega (arith, mul-le-mul {n₁ = 1} {m₁ = size y} {n₂ = size x} {m₂ = size y} (size_positive x) (omega arith))

pub count_positive : (t : Tree) → 1 ≤ count t
count_positive (Literal n) = omega arith
count_positive (Add x y) = omega (arith, count_positive x)
count_positive (Subtract x y) = omega (arith, count_positive x)
count_positive (Multiply x y) = omega (arith, mul-le-mul {n₁ = 1} {m₁ = 1} {n₂ = count x} {m₂ = count y} (count_positive x) (count_positive y))
count_positive t = omega arith

large : (a b c : ℕ) → c ≤ a → a * 1 ≤ a * b → 1 ≤ b → min (min a c * min b c) c ≡ min (a * b) c
large a b zero h g k = omega arith
large a b (suc c) h g k =
    let r : min a (suc c) ≡ suc c = omega arith in
    let one : 1 ≤ min b (suc c) = omega arith in
    let q : suc c * 1 ≤ suc c * min b (suc c) = mul-le-mul {n₁ = suc c} {m₁ = 1} {n₂ = suc c} {m₂ = min b (suc c)} (omega arith) one in
    rw r (omega (arith, g, q))

-- a product of capped numbers, capped, is the capped product
pub cap_times : (a b c : ℕ) → 1 ≤ a → 1 ≤ b → min (min a c * min b c) c ≡ min (a * b) c
cap_times a b c h k =
    elim (nat_le c a) as (λ t. nat_le c a ≡ t → min (min a c * min b c) c ≡ min (a * b) c) [
      | true ↦ λ e.
          let f : c ≤ a = grind (arith, nat_tests) in
          let g : a * 1 ≤ a * b = mul-le-mul {n₁ = a} {m₁ = 1} {n₂ = a} {m₂ = b} (omega arith) k in
          large a b c f g k
      | false ↦ λ e.
          let f : a < c = grind (arith, nat_tests) in
          elim (nat_le c b) as (λ t. nat_le c b ≡ t → min (min a c * min b c) c ≡ min (a * b) c) [
            | true ↦ λ d.
                let m : c ≤ b = grind (arith, nat_tests) in
                let g : 1 * b ≤ a * b = mul-le-mul {n₁ = 1} {m₁ = b} {n₂ = a} {m₂ = b} h (omega arith) in
                let r : min a c ≡ a = omega arith in
                let s : min b c ≡ c = omega arith in
                let q : 1 * c ≤ a * c = mul-le-mul {n₁ = 1} {m₁ = c} {n₂ = a} {m₂ = c} h (omega arith) in
                rw (r, s) (omega (arith, g, q))
            | false ↦ λ d.
                let m : b < c = grind (arith, nat_tests) in
                let r : min a c ≡ a = omega arith in
                let s : min b c ≡ b = omega arith in
                rw (r, s) refl
          ] refl
    ] refl

pub cap_sizes : (x y : Tree) → min (min (size x) (2 ^ 120) * min (size y) (2 ^ 120)) (2 ^ 120) ≡ min (size x * size y) (2 ^ 120)
cap_sizes x y = cap_times (size x) (size y) (2 ^ 120) (size_positive x) (size_positive y)

pub cap_counts : (x y : Tree) → min (min (count x) 1025 * min (count y) 1025) 1025 ≡ min (count x * count y) 1025
cap_counts x y = cap_times (count x) (count y) 1025 (count_positive x) (count_positive y)

pub ruleset caps = (cap_sizes, cap_counts)

-- a capped size taken w times
cap_weighted : (a w c : ℕ) → 1 ≤ w → min (min a c * w) c ≡ min (a * w) c
cap_weighted a w c h =
    elim (nat_le a c) as (λ t. nat_le a c ≡ t → min (min a c * w) c ≡ min (a * w) c) [
      | true ↦ λ e. let f : a ≤ c = grind (arith, nat_tests) in let r : min a c ≡ a = omega arith in rw r refl
      | false ↦ λ e.
          let f : c < a = grind (arith, nat_tests) in
          let r : min a c ≡ c = omega arith in
          let p : c * 1 ≤ c * w = mul-le-mul {n₁ = c} {m₁ = 1} {n₂ = c} {m₂ = w} (omega arith) h in
          let q : a * 1 ≤ a * w = mul-le-mul {n₁ = a} {m₁ = 1} {n₂ = a} {m₂ = w} (omega arith) h in
          rw r (omega (arith, p, q, f))
    ] refl

pub cap_hypothesis : (h : Tree) (n : ℤ) → min (min (hypothesis_sides h size) (2 ^ 120) * max 1 (unsigned_abs n)) (2 ^ 120) ≡ min (hypothesis_sides h size * max 1 (unsigned_abs n)) (2 ^ 120)
cap_hypothesis h n = cap_weighted (hypothesis_sides h size) (max 1 (unsigned_abs n)) (2 ^ 120) (omega arith)

pub cap_goal : (goal : Tree) (n : ℤ) → min (min (goal_sides goal size) (2 ^ 120) * max 1 (unsigned_abs n)) (2 ^ 120) ≡ min (goal_sides goal size * max 1 (unsigned_abs n)) (2 ^ 120)
cap_goal goal n = cap_weighted (goal_sides goal size) (max 1 (unsigned_abs n)) (2 ^ 120) (omega arith)

-- ---- sums over hypotheses
next : (i : ℕ) → suc i + 1 ≡ suc (i + 1)
next i = omega arith

pub sizes_more : (by : List (ℤ × Bor Tree)) (i : ℕ) (d : ℤ × Bor Tree) → i < length by → sizes (named (take (i + 1) by)) ≡ sizes (named (take i by)) + hypothesis_sides (get_or by i d).1.now size * max 1 (unsigned_abs (get_or by i d).0)
sizes_more [] i d h = absurd (omega (arith, h))
sizes_more (b ∷ by) zero d h = omega arith
sizes_more (b ∷ by) (suc i) d h = rw (next i) (omega (arith, sizes_more by i d (omega (arith, h))))

pub counts_more : (by : List (ℤ × Bor Tree)) (i : ℕ) (d : ℤ × Bor Tree) → i < length by → counts (named (take (i + 1) by)) ≡ counts (named (take i by)) + hypothesis_sides (get_or by i d).1.now count
counts_more [] i d h = absurd (omega (arith, h))
counts_more (b ∷ by) zero d h = omega arith
counts_more (b ∷ by) (suc i) d h = rw (next i) (omega (arith, counts_more by i d (omega (arith, h))))

-- ---- equations
and_true : (a b : Bool) → a ≡ true → b ≡ true → a && b ≡ true
and_true true b h k = k
and_true false b h k = h

and_more : (a b c : Bool) → a && b ≡ true → (b ≡ true → c ≡ true) → a && c ≡ true
and_more true b c h k = k h
and_more false b c h k = h

and_false : (a b : Bool) → b ≡ false → a && b ≡ false
and_false true b h = h
and_false false b h = refl

pub equations_more : (by : List (ℤ × Bor Tree)) (i : ℕ) (d : ℤ × Bor Tree) → i < length by → are_equations (named (take i by)) ≡ true → is_equality (get_or by i d).1.now ≡ true → are_equations (named (take (i + 1) by)) ≡ true
equations_more [] i d h is e = absurd (omega (arith, h))
equations_more (b ∷ by) zero d h is e = and_true (is_equality b.1.now) true e refl
equations_more (b ∷ by) (suc i) d h is e = rw (next i) (and_more (is_equality b.1.now) (are_equations (named (take i by))) (are_equations (named (take (i + 1) by))) is (λ r. equations_more by i d (omega (arith, h)) r e))

pub equations_fail : (by : List (ℤ × Bor Tree)) (i : ℕ) (d : ℤ × Bor Tree) → i < length by → is_equality (get_or by i d).1.now ≡ false → are_equations (named by) ≡ false
equations_fail [] i d h e = absurd (omega (arith, h))
equations_fail (b ∷ by) zero d h e = ap (λ t. t && are_equations (named by)) e
equations_fail (b ∷ by) (suc i) d h e = and_false (is_equality b.1.now) (are_equations (named by)) (equations_fail by i d (omega (arith, h)) e)

pub cap_plus : (a b c d e : ℕ) → d ≡ min a c → e ≡ min b c → min (d + e) c ≡ min (a + b) c
cap_plus a b c d e h k = omega (arith, h, k)

-- ---- the tests of the limits
pub below_limit : (a b : ℕ) → nat_lt (min (min a (2 ^ 120) + min b (2 ^ 120)) (2 ^ 120)) (2 ^ 120) ≡ nat_lt (a + b) (2 ^ 120)
below_limit a b =
    same_bool _ _
    (λ h. is_below (a + b) (2 ^ 120) (let f = below (min (min a (2 ^ 120) + min b (2 ^ 120)) (2 ^ 120)) (2 ^ 120) h in omega (arith, f)))
    (λ h. is_below (min (min a (2 ^ 120) + min b (2 ^ 120)) (2 ^ 120)) (2 ^ 120) (let f = below (a + b) (2 ^ 120) h in omega (arith, f)))

pub up_to_limit : (a b : ℕ) → nat_lt (min (min a 1025 + min b 1025) 1025) 1025 ≡ nat_le (a + b) 1024
up_to_limit a b =
    same_bool _ _
    (λ h. is_up_to (a + b) 1024 (let f = below (min (min a 1025 + min b 1025) 1025) 1025 h in omega (arith, f)))
    (λ h. is_below (min (min a 1025 + min b 1025) 1025) 1025 (let f = up_to (a + b) 1024 h in omega (arith, f)))

pub ruleset small_tests = (below_limit, up_to_limit)
