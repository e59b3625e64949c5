-- The formulas that are left of a condition so far, and the places of a pool that are marked for them.
use Rattle.std.specs.Prelude.{ℕ, ◌<◌, ◌≡◌, false, if◌then◌else◌, List, [], ◌∷◌, ◌++◌, length, slice_index_or, Option, Some, None, option_map, map, All}
use Rattle.std.specs.List.{AllZip}
use Rattle.sp_term.specs.Tree.{Tree, Truth, And}
use Rattle.sp_term.specs.Pools.{tree_at}
use Rattle.sp_term.specs.Conditions.{trees}
use Rattle.sp_term.specs.declared.shape.Node.{Node}
use Rattle.sp_simp.specs.Simplified.{fresh, stands_in}
use Rattle.sp_simp.specs.Memos.{IsSimpleAt}
use Rattle.sp_simp.specs.declared.kept.Kept.{Kept}

-- the two sides of an `and`
abbrev pub conjunction : Tree → Option (Tree × Tree)
conjunction (And p q) = Some (p, q)
conjunction _ = None

abbrev pub conjunction_at : List Tree → Option (Node × Node) → Option (Tree × Tree)
conjunction_at ts = option_map (λ p. (tree_at ts p.0.0, tree_at ts p.1.0))

-- formulas, and those of other ones that are fresh after them
unfoldable pub kept_with : List Tree → List Tree → List Tree
kept_with known ps = known ++ fresh known ps

-- formulas, and another one where it isn't among them
abbrev pub with_one : List Tree → Tree → List Tree
with_one known p = if stands_in known p then known else known ++ p ∷ []

-- the trees of the formulas that are left
abbrev pub left : Kept → List Tree
left k = trees k.terms.items

-- exactly the places of formulas that are left are marked, and it is known whether false is among them
pub record IsKept (ts : List Tree) (k : Kept) : Type 0 where
  pub size : length k.marks.items ≡ length ts
  pub each : (n : ℕ) → n < length ts → slice_index_or k.marks.items n false ≡ stands_in (left k) (tree_at ts n)
  pub contradiction : k.contradiction ≡ stands_in (left k) (Truth false)

-- at the places stand the simple forms of the trees
abbrev pub AreSimpleAt : List Tree → List Tree → List Node → Type 0
AreSimpleAt ps ts ns = AllZip (λ p n. IsSimpleAt p ts n.0) ps ns

abbrev pub trees_at : List Tree → List Node → List Tree
trees_at ts ns = map (λ n. tree_at ts n.0) ns

abbrev pub AreWithin : ℕ → List Node → Type 0
AreWithin m ns = All (λ n. n.0 < m) ns
