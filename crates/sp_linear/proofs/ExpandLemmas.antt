-- Polynomials over places are those of the trees there.
use Rattle.std.proofs.Common.{ℕ, ◌+◌, ◌*◌, ◌<◌, ◌≤◌, ◌≡◌, ◌^◌, refl, sym, ◌∙◌, ap, ap₂, ℤ, negsuc, List, [], ◌∷◌, ◌++◌, length, unsigned_abs, arith}
use Rattle.std.specs.Prelude.{nat_eq}
use Rattle.std.proofs.Math.Nat.{mul-le-mul}
use Rattle.sp_term.specs.Tree.{Tree}
use Rattle.sp_term.specs.Pools.{tree_at, IsDistinct}
use Rattle.sp_term.specs.declared.shape.Node.{Node}
use Rattle.sp_simp.specs.Same.{tree_eq}
use Rattle.sp_linear.specs.Polynomials.{Monomial, number_only, atom_only, times_one, multiply, polynomial, size}
use Rattle.sp_linear.specs.code.Sums.{weight, monomials_at, AreBelow, AllBelow}
use Rattle.sp_linear.specs.code.Tests.{is_negative, is_nothing}
use Rattle.sp_linear.specs.code.Parts.{IsParts, IsExpanded}
use Rattle.sp_linear.specs.declared.expand.Parts.TheVariants as part
use Rattle.sp_linear.proofs.EqualityLemmas.{trees_told}
use Rattle.sp_linear.proofs.ExactLemmas.{named-append, named-times_one, named-multiply, below-append, negative_at, nothing_at}
use Rattle.sp_linear.proofs.BoundLemmas.{weight_le_size}
use Rattle.sp_linear.proofs.LimitLemmas.{left_size, right_size}

all_append : (n : ℕ) (ms ns : List (Monomial ℕ)) → AllBelow n ms → AllBelow n ns → AllBelow n (ms ++ ns)
all_append n [] ns h k = k
all_append n (m ∷ ms) ns h k = (h.0, all_append n ms ns h.1 k)

all_times_one : (n : ℕ) (m : Monomial ℕ) (ns : List (Monomial ℕ)) → AreBelow n m.atoms → AllBelow n ns → AllBelow n (times_one m ns)
all_times_one n m [] h k = tt
all_times_one n m (o ∷ ns) h k = (below-append n m.atoms o.atoms h k.0, all_times_one n m ns h k.1)

all_multiply : (n : ℕ) (ms ns : List (Monomial ℕ)) → AllBelow n ms → AllBelow n ns → AllBelow n (multiply ms ns)
all_multiply n [] ns h k = tt
all_multiply n (m ∷ ms) ns h k = all_append n (times_one m ns) (multiply ms ns) (all_times_one n m ns h.0 k) (all_multiply n ms ns h.1 k)

pub expanded_number : (ts : List Tree) (n : ℕ) (c : ℤ) → IsParts ts n (part.Number c) → IsExpanded ts n (number_only c ∷ [])
expanded_number ts n c h = record { trees = sym (ap polynomial h); below = (tt, tt) }

pub expanded_atom : (ts : List Tree) (n : ℕ) → n < length ts → IsParts ts n part.Atom → IsExpanded ts n (atom_only n ∷ [])
expanded_atom ts n k h = record { trees = sym h; below = ((k, tt), tt) }

pub expanded_sum : (ts : List Tree) (n : ℕ) (x y : Node) (p q : List (Monomial ℕ)) → IsParts ts n (part.Sum x y) → IsExpanded ts x.0 p → IsExpanded ts y.0 q → IsExpanded ts n (p ++ q)
expanded_sum ts n x y p q h f g = record {
  trees = named-append ts p q ∙ ap₂ (λ (a b : List (Monomial Tree)). a ++ b) f.trees g.trees ∙ sym (ap polynomial h.0);
  below = all_append (length ts) p q f.below g.below;
}

pub expanded_difference : (ts : List Tree) (n : ℕ) (x y : Node) (p q : List (Monomial ℕ)) → IsParts ts n (part.Difference x y) → IsExpanded ts x.0 p → IsExpanded ts y.0 q → IsExpanded ts n (p ++ times_one (number_only (negsuc 0)) q)
expanded_difference ts n x y p q h f g = record {
  trees = named-append ts p (times_one (number_only (negsuc 0)) q)
      ∙ ap₂ (λ (a b : List (Monomial Tree)). a ++ b) f.trees (named-times_one ts (number_only (negsuc 0)) q ∙ ap (times_one (number_only (negsuc 0))) g.trees)
      ∙ sym (ap polynomial h.0);
  below = all_append (length ts) p (times_one (number_only (negsuc 0)) q) f.below (all_times_one (length ts) (number_only (negsuc 0)) q tt g.below);
}

pub expanded_product : (ts : List Tree) (n : ℕ) (x y : Node) (p q : List (Monomial ℕ)) → IsParts ts n (part.Product x y) → IsExpanded ts x.0 p → IsExpanded ts y.0 q → IsExpanded ts n (multiply p q)
expanded_product ts n x y p q h f g = record {
  trees = named-multiply ts p q ∙ ap₂ (λ (a b : List (Monomial Tree)). multiply a b) f.trees g.trees ∙ sym (ap polynomial h.0);
  below = all_multiply (length ts) p q f.below g.below;
}

-- ---- sizes
weight_at : (ts : List Tree) (ms : List (Monomial ℕ)) → weight (monomials_at ts ms) ≡ weight ms
weight_at ts [] = refl
weight_at ts (m ∷ ms) = ap (λ n. unsigned_abs m.number + n) (weight_at ts ms)

weight_within : (ts : List Tree) (n : ℕ) (ms : List (Monomial ℕ)) → IsExpanded ts n ms → weight ms ≤ size (tree_at ts n)
weight_within ts n ms e = omega (arith, sym (weight_at ts ms) ∙ ap weight e.trees, weight_le_size (tree_at ts n))

pub weight_small : (ts : List Tree) (n : ℕ) (ms : List (Monomial ℕ)) → IsExpanded ts n ms → size (tree_at ts n) ≤ 2 ^ 121 → weight ms < 2 ^ 127
weight_small ts n ms e h = omega (arith, weight_within ts n ms e, h)

pub sum_sizes : (ts : List Tree) (n : ℕ) (x y : Node) → IsParts ts n (part.Sum x y) → size (tree_at ts n) ≤ 2 ^ 121 → (size (tree_at ts x.0) ≤ 2 ^ 121) × (size (tree_at ts y.0) ≤ 2 ^ 121)
sum_sizes ts n x y h s = let e = ap size h.0 in (omega (arith, e, s), omega (arith, e, s))

pub difference_sizes : (ts : List Tree) (n : ℕ) (x y : Node) → IsParts ts n (part.Difference x y) → size (tree_at ts n) ≤ 2 ^ 121 → (size (tree_at ts x.0) ≤ 2 ^ 121) × (size (tree_at ts y.0) ≤ 2 ^ 121)
difference_sizes ts n x y h s = let e = ap size h.0 in (omega (arith, e, s), omega (arith, e, s))

pub product_sizes : (ts : List Tree) (n : ℕ) (x y : Node) → IsParts ts n (part.Product x y) → size (tree_at ts n) ≤ 2 ^ 121 → (size (tree_at ts x.0) ≤ 2 ^ 121) × (size (tree_at ts y.0) ≤ 2 ^ 121)
product_sizes ts n x y h s = let e = ap size h.0 in (omega (arith, e, s, left_size (tree_at ts x.0) (tree_at ts y.0)), omega (arith, e, s, right_size (tree_at ts x.0) (tree_at ts y.0)))

pub minus_small : (ts : List Tree) (n : ℕ) (ms : List (Monomial ℕ)) → IsExpanded ts n ms → size (tree_at ts n) ≤ 2 ^ 121 → unsigned_abs (negsuc 0) * weight ms < 2 ^ 127
minus_small ts n ms e h = omega (arith, weight_small ts n ms e h)

pub product_small : (ts : List Tree) (n : ℕ) (x y : Node) (p q : List (Monomial ℕ)) → IsParts ts n (part.Product x y) → size (tree_at ts n) ≤ 2 ^ 121 → IsExpanded ts x.0 p → IsExpanded ts y.0 q → weight p * weight q < 2 ^ 127
product_small ts n x y p q h s f g =
    omega (arith, ap size h.0, s, mul-le-mul {n₁ = weight p} {m₁ = weight q} {n₂ = size (tree_at ts x.0)} {m₂ = size (tree_at ts y.0)} (weight_within ts x.0 p f) (weight_within ts y.0 q g))

-- ---- the tests
pub negative_of : (ts : List Tree) (n : ℕ) (ms : List (Monomial ℕ)) → IsDistinct ts → IsExpanded ts n ms → is_negative nat_eq ms ≡ is_negative tree_eq (polynomial (tree_at ts n))
negative_of ts n ms apart e = sym (negative_at tree_eq trees_told ts apart ms e.below) ∙ ap (is_negative tree_eq) e.trees

pub nothing_of : (ts : List Tree) (n : ℕ) (ms : List (Monomial ℕ)) → IsDistinct ts → IsExpanded ts n ms → is_nothing nat_eq ms ≡ is_nothing tree_eq (polynomial (tree_at ts n))
nothing_of ts n ms apart e = sym (nothing_at tree_eq trees_told ts apart ms e.below) ∙ ap (is_nothing tree_eq) e.trees

pub ruleset expands = (expanded_number, expanded_atom, expanded_sum, expanded_difference, expanded_product, sum_sizes, difference_sizes, product_sizes, minus_small, product_small)
