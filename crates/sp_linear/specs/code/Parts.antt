-- The parts of a tree of a pool, and its polynomial over places.
use Rattle.std.specs.Prelude.{◌≡◌, ◌<◌, ℕ, List, [], ◌∷◌, length}
use Rattle.sp_term.specs.Tree.{Tree, Literal, Add, Subtract, Multiply}
use Rattle.sp_term.specs.Pools.{tree_at}
use Rattle.sp_linear.specs.Polynomials.{Monomial, atom_only, polynomial}
use Rattle.sp_linear.specs.code.Sums.{monomials_at, AllBelow}
use Rattle.sp_linear.specs.declared.expand.Parts.{Parts}
use Rattle.sp_linear.specs.declared.expand.Parts.TheVariants as part

-- the tree at a place has these parts, which stand below it
abbrev pub IsParts : List Tree → ℕ → Parts → Type 0
IsParts ts n (part.Number c) = tree_at ts n ≡ Literal c
IsParts ts n (part.Sum x y) = (tree_at ts n ≡ Add (tree_at ts x.0) (tree_at ts y.0)) × (x.0 < n) × (y.0 < n)
IsParts ts n (part.Difference x y) = (tree_at ts n ≡ Subtract (tree_at ts x.0) (tree_at ts y.0)) × (x.0 < n) × (y.0 < n)
IsParts ts n (part.Product x y) = (tree_at ts n ≡ Multiply (tree_at ts x.0) (tree_at ts y.0)) × (x.0 < n) × (y.0 < n)
IsParts ts n part.Atom = polynomial (tree_at ts n) ≡ atom_only (tree_at ts n) ∷ []

-- monomials over places are the polynomial of the tree at a place
pub record IsExpanded (ts : List Tree) (n : ℕ) (ms : List (Monomial ℕ)) : Type 0 where
  pub trees : monomials_at ts ms ≡ polynomial (tree_at ts n)
  pub below : AllBelow (length ts) ms
