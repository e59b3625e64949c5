-- Values and weights of polynomials, and atoms that stand at places of a list.
use Rattle.std.specs.Prelude.{ℕ, ◌+◌, ◌<◌, ℤ, pos, ◌+ℤ◌, ◌*ℤ◌, List, [], ◌∷◌, unsigned_abs}
use Rattle.std.specs.List.{AllByRecursion}
use Rattle.sp_term.specs.Tree.{Tree}
use Rattle.sp_term.specs.Pools.{tree_at}
use Rattle.sp_linear.specs.Polynomials.{Monomial}

-- the value of a product and of a polynomial, for a value of each atom
abbrev pub product_value : {A : Type 0} → (A → ℤ) → List A → ℤ
product_value v [] = pos 1
product_value v (a ∷ p) = v a *ℤ product_value v p

abbrev pub sum_value : {A : Type 0} → (A → ℤ) → List (Monomial A) → ℤ
sum_value v [] = pos 0
sum_value v (m ∷ ms) = (m.number *ℤ product_value v m.atoms) +ℤ sum_value v ms

-- the sum of the absolute values of a polynomial's numbers
abbrev pub weight : {A : Type 0} → List (Monomial A) → ℕ
weight [] = 0
weight (m ∷ ms) = unsigned_abs m.number + weight ms

-- the trees at places
abbrev pub trees_at : List Tree → List ℕ → List Tree
trees_at ts [] = []
trees_at ts (n ∷ p) = tree_at ts n ∷ trees_at ts p

abbrev pub monomials_at : List Tree → List (Monomial ℕ) → List (Monomial Tree)
monomials_at ts [] = []
monomials_at ts (m ∷ ms) = record { number = m.number; atoms = trees_at ts m.atoms } ∷ monomials_at ts ms

-- the places stand within a length
abbrev pub AreBelow : ℕ → List ℕ → Type 0
AreBelow n p = AllByRecursion (λ a. a < n) p

abbrev pub AllBelow : ℕ → List (Monomial ℕ) → Type 0
AllBelow n ms = AllByRecursion (λ m. AreBelow n m.atoms) ms
