-- One tree in the places of another one, over the trees of a pool.
use Rattle.std.specs.Prelude.{◌≡◌, ℕ, ◌+◌, ◌<◌, ◌≤◌, Bool, false, ◌||◌, if◌then◌else◌, Option, Some, None, List, length, slice_index_or}
use Rattle.std.specs.Borrow.{Bor}
use Rattle.sp_term.specs.Tree.{Tree, Literal, Truth, Variable, Add, Subtract, Multiply, Divide, Remainder, ByteAnd, ByteOr, ByteXor, Parity, Bit, Psw, If, Element, Update, Total, Equal, Less, LessOrEqual, Not, And, Or, Implies, Iff, ForAll, ForSome}
use Rattle.sp_term.specs.Pools.{tree_at, Grows, IsPlace}
use Rattle.sp_steps.specs.Rewriting.{stands_in_tree, rewritten}
use Rattle.sp_rules.specs.declared.replacement.Replacement.{Replacement}

-- the two sides of an equation
abbrev pub sides_now : Option (Bor Tree × Bor Tree) → Option (Tree × Tree)
sides_now (Some s) = Some (s.0.now, s.1.now)
sides_now None = None

-- a tree with y in the places of x in its parts
abbrev pub with_new_parts : Tree → Tree → Tree → Tree
with_new_parts x y (Literal n) = Literal n
with_new_parts x y (Truth b) = Truth b
with_new_parts x y (Variable v) = Variable v
with_new_parts x y (Add a b) = Add (rewritten x y a) (rewritten x y b)
with_new_parts x y (Subtract a b) = Subtract (rewritten x y a) (rewritten x y b)
with_new_parts x y (Multiply a b) = Multiply (rewritten x y a) (rewritten x y b)
with_new_parts x y (Divide a b) = Divide (rewritten x y a) (rewritten x y b)
with_new_parts x y (Remainder a b) = Remainder (rewritten x y a) (rewritten x y b)
with_new_parts x y (ByteAnd a b) = ByteAnd (rewritten x y a) (rewritten x y b)
with_new_parts x y (ByteOr a b) = ByteOr (rewritten x y a) (rewritten x y b)
with_new_parts x y (ByteXor a b) = ByteXor (rewritten x y a) (rewritten x y b)
with_new_parts x y (Parity a) = Parity (rewritten x y a)
with_new_parts x y (Bit k a) = Bit k (rewritten x y a)
with_new_parts x y (Psw a b c d e) = Psw (rewritten x y a) (rewritten x y b) (rewritten x y c) (rewritten x y d) (rewritten x y e)
with_new_parts x y (If a b c) = If (rewritten x y a) (rewritten x y b) (rewritten x y c)
with_new_parts x y (Element a b) = Element (rewritten x y a) (rewritten x y b)
with_new_parts x y (Update a b c) = Update (rewritten x y a) (rewritten x y b) (rewritten x y c)
with_new_parts x y (Total a b c) = Total (rewritten x y a) (rewritten x y b) (rewritten x y c)
with_new_parts x y (Equal a b) = Equal (rewritten x y a) (rewritten x y b)
with_new_parts x y (Less a b) = Less (rewritten x y a) (rewritten x y b)
with_new_parts x y (LessOrEqual a b) = LessOrEqual (rewritten x y a) (rewritten x y b)
with_new_parts x y (Not a) = Not (rewritten x y a)
with_new_parts x y (And a b) = And (rewritten x y a) (rewritten x y b)
with_new_parts x y (Or a b) = Or (rewritten x y a) (rewritten x y b)
with_new_parts x y (Implies a b) = Implies (rewritten x y a) (rewritten x y b)
with_new_parts x y (Iff a b) = Iff (rewritten x y a) (rewritten x y b)
with_new_parts x y (ForAll k a b c) = ForAll k (rewritten x y a) (rewritten x y b) (rewritten x y c)
with_new_parts x y (ForSome k a b c) = ForSome k (rewritten x y a) (rewritten x y b) (rewritten x y c)

-- whether x stands in a part of a tree
abbrev pub stands_in_parts : Tree → Tree → Bool
stands_in_parts x (Literal n) = false
stands_in_parts x (Truth b) = false
stands_in_parts x (Variable v) = false
stands_in_parts x (Add a b) = stands_in_tree x a || stands_in_tree x b
stands_in_parts x (Subtract a b) = stands_in_tree x a || stands_in_tree x b
stands_in_parts x (Multiply a b) = stands_in_tree x a || stands_in_tree x b
stands_in_parts x (Divide a b) = stands_in_tree x a || stands_in_tree x b
stands_in_parts x (Remainder a b) = stands_in_tree x a || stands_in_tree x b
stands_in_parts x (ByteAnd a b) = stands_in_tree x a || stands_in_tree x b
stands_in_parts x (ByteOr a b) = stands_in_tree x a || stands_in_tree x b
stands_in_parts x (ByteXor a b) = stands_in_tree x a || stands_in_tree x b
stands_in_parts x (Parity a) = stands_in_tree x a
stands_in_parts x (Bit k a) = stands_in_tree x a
stands_in_parts x (Psw a b c d e) = stands_in_tree x a || stands_in_tree x b || stands_in_tree x c || stands_in_tree x d || stands_in_tree x e
stands_in_parts x (If a b c) = stands_in_tree x a || stands_in_tree x b || stands_in_tree x c
stands_in_parts x (Element a b) = stands_in_tree x a || stands_in_tree x b
stands_in_parts x (Update a b c) = stands_in_tree x a || stands_in_tree x b || stands_in_tree x c
stands_in_parts x (Total a b c) = stands_in_tree x a || stands_in_tree x b || stands_in_tree x c
stands_in_parts x (Equal a b) = stands_in_tree x a || stands_in_tree x b
stands_in_parts x (Less a b) = stands_in_tree x a || stands_in_tree x b
stands_in_parts x (LessOrEqual a b) = stands_in_tree x a || stands_in_tree x b
stands_in_parts x (Not a) = stands_in_tree x a
stands_in_parts x (And a b) = stands_in_tree x a || stands_in_tree x b
stands_in_parts x (Or a b) = stands_in_tree x a || stands_in_tree x b
stands_in_parts x (Implies a b) = stands_in_tree x a || stands_in_tree x b
stands_in_parts x (Iff a b) = stands_in_tree x a || stands_in_tree x b
stands_in_parts x (ForAll k a b c) = stands_in_tree x a || stands_in_tree x b || stands_in_tree x c
stands_in_parts x (ForSome k a b c) = stands_in_tree x a || stands_in_tree x b || stands_in_tree x c

-- the tree with y in the places of x, if there is a place
abbrev pub rewritten_where : Tree → Tree → Tree → Option Tree
rewritten_where x y t = if stands_in_tree x t then Some (rewritten x y t) else None

abbrev pub now_if : Option (Bor Tree) → Option Tree
now_if (Some t) = Some t.now
now_if None = None

-- the tree that is replaced, and the one that comes for it
abbrev pub from_tree : Replacement → Tree
from_tree r = tree_at r.pool r.from.0

abbrev pub to_tree : Replacement → Tree
to_tree r = tree_at r.pool r.to.0

-- of each of the first trees it is known what it becomes, and whether x stands in it
pub record AreKnown (ts : List Tree) (x y : Tree) (places : List ℕ) (marks : List Bool) : Type 0 where
  pub within : length places ≤ length ts
  pub as_many : length marks ≡ length places
  pub place : (k : ℕ) → k < length places → IsPlace ts (rewritten x y (tree_at ts k)) (slice_index_or places k 0)
  pub mark : (k : ℕ) → k < length places → slice_index_or marks k false ≡ stands_in_tree x (tree_at ts k)

pub record IsReplacement (r : Replacement) : Type 0 where
  pub from : r.from.0 < length r.pool
  pub to : r.to.0 < length r.pool
  pub known : AreKnown r.pool (from_tree r) (to_tree r) r.places.items r.marks.items

-- the same trees are replaced, over a pool that grew
pub record GoesOn (old new : Replacement) : Type 0 where
  pub grows : Grows old.pool new.pool
  pub from : new.from ≡ old.from
  pub to : new.to ≡ old.to
  pub right : IsReplacement new

-- one more tree is known
pub record IsMore (old new : Replacement) : Type 0 where
  pub goes_on : GoesOn old new
  pub longer : length new.places.items ≡ 1 + length old.places.items

-- the tree at a place is known
pub record IsDone (old : Replacement) (n : ℕ) (new : Replacement) : Type 0 where
  pub goes_on : GoesOn old new
  pub place : n < length new.places.items
