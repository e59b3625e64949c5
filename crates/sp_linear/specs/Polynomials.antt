-- The polynomial of a term: whole numbers times products of atoms, and what each product has in all (this project's own).
use Rattle.std.specs.Prelude.{ℕ, ◌+◌, ◌*◌, max, ℤ, pos, negsuc, ◌+ℤ◌, ◌*ℤ◌, Bool, true, ◌&&◌, if◌then◌else◌, ◌==◌, List, [], ◌∷◌, ◌++◌, unsigned_abs}
use Rattle.sp_term.specs.Tree.{Tree, Literal, Add, Subtract, Multiply}
use Rattle.sp_simp.specs.Same.{tree_eq}

-- a whole number times a product of atoms
pub record Monomial (A : Type 0) : Type 0 where
  pub number : ℤ
  pub atoms : List A

-- how often an atom stands in a product; `same` tells whether two atoms are one
abbrev pub times : {A : Type 0} (same : A → A → Bool) → A → List A → ℕ
times same a [] = 0
times same a (b ∷ p) = (if same a b then 1 else 0) + times same a p

-- each atom of a list stands in two products equally often
abbrev pub agree_on : {A : Type 0} (same : A → A → Bool) → List A → List A → List A → Bool
agree_on same [] p q = true
agree_on same (a ∷ rest) p q = (times same a p == times same a q) && agree_on same rest p q

-- two products have the same atoms, each equally often
abbrev pub is_same : {A : Type 0} (same : A → A → Bool) → List A → List A → Bool
is_same same p q = agree_on same (p ++ q) p q

abbrev pub share : {A : Type 0} (same : A → A → Bool) → List A → Monomial A → ℤ
share same p m = if is_same same p m.atoms then m.number else pos 0

-- the coefficient of a product: the sum of the numbers that stand before it, in whatever order its atoms are written
abbrev pub coefficient : {A : Type 0} (same : A → A → Bool) → List A → List (Monomial A) → ℤ
coefficient same p [] = pos 0
coefficient same p (m ∷ ms) = share same p m +ℤ coefficient same p ms

abbrev pub times_monomial : {A : Type 0} → Monomial A → Monomial A → Monomial A
times_monomial m n = record { number = m.number *ℤ n.number; atoms = m.atoms ++ n.atoms }

abbrev pub times_one : {A : Type 0} → Monomial A → List (Monomial A) → List (Monomial A)
times_one m [] = []
times_one m (n ∷ ns) = times_monomial m n ∷ times_one m ns

-- each monomial times each
abbrev pub multiply : {A : Type 0} → List (Monomial A) → List (Monomial A) → List (Monomial A)
multiply [] ns = []
multiply (m ∷ ms) ns = times_one m ns ++ multiply ms ns

-- a number without atoms
abbrev pub number_only : {A : Type 0} → ℤ → Monomial A
number_only n = record { number = n; atoms = [] }

-- an atom, once
abbrev pub atom_only : {A : Type 0} → A → Monomial A
atom_only a = record { number = pos 1; atoms = a ∷ [] }

-- a term with its sums and products multiplied out; every term that is no literal, sum, difference or product is an atom
abbrev pub polynomial : Tree → List (Monomial Tree)
polynomial (Literal n) = number_only n ∷ []
polynomial (Add x y) = polynomial x ++ polynomial y
polynomial (Subtract x y) = polynomial x ++ times_one (number_only (negsuc 0)) (polynomial y)
polynomial (Multiply x y) = multiply (polynomial x) (polynomial y)
polynomial t = atom_only t ∷ []

-- what a product of atoms has in a term
abbrev pub coefficient_in : List Tree → Tree → ℤ
coefficient_in p t = coefficient tree_eq p (polynomial t)

-- the size of a term: no coefficient of its polynomial is greater in absolute value
abbrev pub size : Tree → ℕ
size (Literal n) = max 1 (unsigned_abs n)
size (Add x y) = size x + size y
size (Subtract x y) = size x + size y
size (Multiply x y) = size x * size y
size t = 1

-- the count of a term: so many monomials it has, multiplied out
abbrev pub count : Tree → ℕ
count (Add x y) = count x + count y
count (Subtract x y) = count x + count y
count (Multiply x y) = count x * count y
count t = 1
