-- A pool as the list of its trees: no two the same, and each after its parts (this project's own).
use Rattle.std.specs.Prelude.{ℕ, ◌<◌, ◌≤◌, ◌≡◌, ◌≢◌, ◌⊎◌, ⊤, true, List, [], ◌∷◌, ◌++◌, length, slice_index_or}
use Rattle.sp_term.specs.declared.shape.Shape.{Shape}
use Rattle.sp_term.specs.declared.shape.Shape.TheVariants as shape
use Rattle.sp_term.specs.Tree.{Tree, Literal, Truth, Variable, Add, Subtract, Multiply, Divide, Remainder, ByteAnd, ByteOr, ByteXor, Parity, Bit, Psw, If, Element, Update, Total, Equal, Less, LessOrEqual, Not, And, Or, Implies, Iff, ForAll, ForSome}

-- the tree at a place; past the end it is `true`
abbrev pub tree_at : List Tree → ℕ → Tree
tree_at ts n = slice_index_or ts n (Truth true)

-- the tree of a node whose parts stand at places
abbrev pub shape_tree : List Tree → Shape → Tree
shape_tree ts (shape.Literal n) = Literal n
shape_tree ts (shape.Truth b) = Truth b
shape_tree ts (shape.Variable w) = Variable w
shape_tree ts (shape.Add x y) = Add (tree_at ts x.0) (tree_at ts y.0)
shape_tree ts (shape.Subtract x y) = Subtract (tree_at ts x.0) (tree_at ts y.0)
shape_tree ts (shape.Multiply x y) = Multiply (tree_at ts x.0) (tree_at ts y.0)
shape_tree ts (shape.Divide x y) = Divide (tree_at ts x.0) (tree_at ts y.0)
shape_tree ts (shape.Remainder x y) = Remainder (tree_at ts x.0) (tree_at ts y.0)
shape_tree ts (shape.ByteAnd x y) = ByteAnd (tree_at ts x.0) (tree_at ts y.0)
shape_tree ts (shape.ByteOr x y) = ByteOr (tree_at ts x.0) (tree_at ts y.0)
shape_tree ts (shape.ByteXor x y) = ByteXor (tree_at ts x.0) (tree_at ts y.0)
shape_tree ts (shape.Parity x) = Parity (tree_at ts x.0)
shape_tree ts (shape.Bit k x) = Bit k (tree_at ts x.0)
shape_tree ts (shape.Psw s z ac p cy) = Psw (tree_at ts s.0) (tree_at ts z.0) (tree_at ts ac.0) (tree_at ts p.0) (tree_at ts cy.0)
shape_tree ts (shape.If p x y) = If (tree_at ts p.0) (tree_at ts x.0) (tree_at ts y.0)
shape_tree ts (shape.Element m x) = Element (tree_at ts m.0) (tree_at ts x.0)
shape_tree ts (shape.Update m x y) = Update (tree_at ts m.0) (tree_at ts x.0) (tree_at ts y.0)
shape_tree ts (shape.Total m x y) = Total (tree_at ts m.0) (tree_at ts x.0) (tree_at ts y.0)
shape_tree ts (shape.Equal x y) = Equal (tree_at ts x.0) (tree_at ts y.0)
shape_tree ts (shape.Less x y) = Less (tree_at ts x.0) (tree_at ts y.0)
shape_tree ts (shape.LessOrEqual x y) = LessOrEqual (tree_at ts x.0) (tree_at ts y.0)
shape_tree ts (shape.Not p) = Not (tree_at ts p.0)
shape_tree ts (shape.And p q) = And (tree_at ts p.0) (tree_at ts q.0)
shape_tree ts (shape.Or p q) = Or (tree_at ts p.0) (tree_at ts q.0)
shape_tree ts (shape.Implies p q) = Implies (tree_at ts p.0) (tree_at ts q.0)
shape_tree ts (shape.Iff p q) = Iff (tree_at ts p.0) (tree_at ts q.0)
shape_tree ts (shape.ForAll k x y p) = ForAll k (tree_at ts x.0) (tree_at ts y.0) (tree_at ts p.0)
shape_tree ts (shape.ForSome k x y p) = ForSome k (tree_at ts x.0) (tree_at ts y.0) (tree_at ts p.0)

-- the parts stand below a place
abbrev pub IsBelow : ℕ → Shape → Type 0
IsBelow place (shape.Literal _) = ⊤
IsBelow place (shape.Truth _) = ⊤
IsBelow place (shape.Variable _) = ⊤
IsBelow place (shape.Add x y) = (x.0 < place) × (y.0 < place)
IsBelow place (shape.Subtract x y) = (x.0 < place) × (y.0 < place)
IsBelow place (shape.Multiply x y) = (x.0 < place) × (y.0 < place)
IsBelow place (shape.Divide x y) = (x.0 < place) × (y.0 < place)
IsBelow place (shape.Remainder x y) = (x.0 < place) × (y.0 < place)
IsBelow place (shape.ByteAnd x y) = (x.0 < place) × (y.0 < place)
IsBelow place (shape.ByteOr x y) = (x.0 < place) × (y.0 < place)
IsBelow place (shape.ByteXor x y) = (x.0 < place) × (y.0 < place)
IsBelow place (shape.Parity x) = x.0 < place
IsBelow place (shape.Bit _ x) = x.0 < place
IsBelow place (shape.Psw s z ac p cy) = (s.0 < place) × (z.0 < place) × (ac.0 < place) × (p.0 < place) × (cy.0 < place)
IsBelow place (shape.If p x y) = (p.0 < place) × (x.0 < place) × (y.0 < place)
IsBelow place (shape.Element m x) = (m.0 < place) × (x.0 < place)
IsBelow place (shape.Update m x y) = (m.0 < place) × (x.0 < place) × (y.0 < place)
IsBelow place (shape.Total m x y) = (m.0 < place) × (x.0 < place) × (y.0 < place)
IsBelow place (shape.Equal x y) = (x.0 < place) × (y.0 < place)
IsBelow place (shape.Less x y) = (x.0 < place) × (y.0 < place)
IsBelow place (shape.LessOrEqual x y) = (x.0 < place) × (y.0 < place)
IsBelow place (shape.Not p) = p.0 < place
IsBelow place (shape.And p q) = (p.0 < place) × (q.0 < place)
IsBelow place (shape.Or p q) = (p.0 < place) × (q.0 < place)
IsBelow place (shape.Implies p q) = (p.0 < place) × (q.0 < place)
IsBelow place (shape.Iff p q) = (p.0 < place) × (q.0 < place)
IsBelow place (shape.ForAll _ x y p) = (x.0 < place) × (y.0 < place) × (p.0 < place)
IsBelow place (shape.ForSome _ x y p) = (x.0 < place) × (y.0 < place) × (p.0 < place)

-- trees were appended, and no other change was made
pub record Grows (old new : List Tree) : Type 0 where
  pub longer : length old ≤ length new
  pub same : (k : ℕ) → k < length old → tree_at new k ≡ tree_at old k

-- no two the same
abbrev pub IsDistinct : List Tree → Type 0
IsDistinct ts = (j k : ℕ) → j < length ts → k < length ts → tree_at ts j ≡ tree_at ts k → j ≡ k

-- n is the place of the tree t
pub record IsPlace (ts : List Tree) (t : Tree) (n : ℕ) : Type 0 where
  pub within : n < length ts
  pub is : tree_at ts n ≡ t

-- the tree stands nowhere in the list
abbrev pub IsAbsent : List Tree → Tree → Type 0
IsAbsent ts t = (k : ℕ) → k < length ts → tree_at ts k ≢ t

-- t stood in the list at n already and nothing changed, or it was appended at n
abbrev pub IsAdded : List Tree → Tree → List Tree → ℕ → Type 0
IsAdded old t new n = (IsPlace old t n × (new ≡ old)) ⊎ (IsAbsent old t × (n ≡ length old) × (new ≡ old ++ t ∷ []))
