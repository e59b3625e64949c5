-- The parts of a tree, and a pool that grows by these alone (this project's own).
use Rattle.std.specs.Prelude.{ℕ, ◌<◌, ◌≤◌, List, [], ◌∷◌, ◌++◌, length}
use Rattle.std.specs.List.{Contains}
use Rattle.sp_term.specs.Tree.{Tree, Literal, Truth, Variable, Add, Subtract, Multiply, Divide, Remainder, ByteAnd, ByteOr, ByteXor, Parity, Bit, Psw, If, Element, Update, Total, Equal, Less, LessOrEqual, Not, And, Or, Implies, Iff, ForAll, ForSome}
use Rattle.sp_term.specs.Pools.{tree_at}

-- the parts of a tree, the parts of these, and so on
abbrev pub parts_below : Tree → List Tree
parts_below (Literal n) = []
parts_below (Truth b) = []
parts_below (Variable v) = []
parts_below (Add x y) = x ∷ parts_below x ++ y ∷ parts_below y
parts_below (Subtract x y) = x ∷ parts_below x ++ y ∷ parts_below y
parts_below (Multiply x y) = x ∷ parts_below x ++ y ∷ parts_below y
parts_below (Divide x y) = x ∷ parts_below x ++ y ∷ parts_below y
parts_below (Remainder x y) = x ∷ parts_below x ++ y ∷ parts_below y
parts_below (ByteAnd x y) = x ∷ parts_below x ++ y ∷ parts_below y
parts_below (ByteOr x y) = x ∷ parts_below x ++ y ∷ parts_below y
parts_below (ByteXor x y) = x ∷ parts_below x ++ y ∷ parts_below y
parts_below (Parity x) = x ∷ parts_below x
parts_below (Bit k x) = x ∷ parts_below x
parts_below (Psw s z ac p cy) = s ∷ parts_below s ++ z ∷ parts_below z ++ ac ∷ parts_below ac ++ p ∷ parts_below p ++ cy ∷ parts_below cy
parts_below (If p x y) = p ∷ parts_below p ++ x ∷ parts_below x ++ y ∷ parts_below y
parts_below (Element m x) = m ∷ parts_below m ++ x ∷ parts_below x
parts_below (Update m x y) = m ∷ parts_below m ++ x ∷ parts_below x ++ y ∷ parts_below y
parts_below (Total m x y) = m ∷ parts_below m ++ x ∷ parts_below x ++ y ∷ parts_below y
parts_below (Equal x y) = x ∷ parts_below x ++ y ∷ parts_below y
parts_below (Less x y) = x ∷ parts_below x ++ y ∷ parts_below y
parts_below (LessOrEqual x y) = x ∷ parts_below x ++ y ∷ parts_below y
parts_below (Not p) = p ∷ parts_below p
parts_below (And p q) = p ∷ parts_below p ++ q ∷ parts_below q
parts_below (Or p q) = p ∷ parts_below p ++ q ∷ parts_below q
parts_below (Implies p q) = p ∷ parts_below p ++ q ∷ parts_below q
parts_below (Iff p q) = p ∷ parts_below p ++ q ∷ parts_below q
parts_below (ForAll k x y p) = x ∷ parts_below x ++ y ∷ parts_below y ++ p ∷ parts_below p
parts_below (ForSome k x y p) = x ∷ parts_below x ++ y ∷ parts_below y ++ p ∷ parts_below p

-- the tree itself, and the parts below it
abbrev pub parts : Tree → List Tree
parts t = t ∷ parts_below t

-- what a list has past the end of an older one are some of these trees
pub record AppendsOnly (old new some : List Tree) : Type 0 where
  pub each : (k : ℕ) → length old ≤ k → k < length new → Contains some (tree_at new k)
