-- Terms, formulas and memories as trees (this project's own; "after FDL" is the only statement made about that language).
use Rattle.std.specs.Prelude.{ℕ, ◌+◌, max, ℤ, Bool}
use Rattle.sp_term.specs.declared.var.Var.{Var}

pub data Tree : Type 0 where
  Literal : ℤ → Tree
  Truth : Bool → Tree
  Variable : Var → Tree
  Add : Tree → Tree → Tree
  Subtract : Tree → Tree → Tree
  Multiply : Tree → Tree → Tree
  Divide : Tree → Tree → Tree
  Remainder : Tree → Tree → Tree
  ByteAnd : Tree → Tree → Tree
  ByteOr : Tree → Tree → Tree
  ByteXor : Tree → Tree → Tree
  Parity : Tree → Tree
  -- the number of a bit, and a term
  Bit : ℕ → Tree → Tree
  -- S, Z, AC, P and CY
  Psw : Tree → Tree → Tree → Tree → Tree → Tree
  If : Tree → Tree → Tree → Tree
  -- a memory and a place
  Element : Tree → Tree → Tree
  -- a memory, a place and the number to put there
  Update : Tree → Tree → Tree → Tree
  -- a memory, and the first and the last place of a sum
  Total : Tree → Tree → Tree → Tree
  Equal : Tree → Tree → Tree
  Less : Tree → Tree → Tree
  LessOrEqual : Tree → Tree → Tree
  Not : Tree → Tree
  And : Tree → Tree → Tree
  Or : Tree → Tree → Tree
  Implies : Tree → Tree → Tree
  Iff : Tree → Tree → Tree
  -- the number of the bound variable, the first and the last number, and a formula
  ForAll : ℕ → Tree → Tree → Tree → Tree
  ForSome : ℕ → Tree → Tree → Tree → Tree

-- A literal, a variable, true, false and each form with its parts is one node. The number of a bit and a bound name are none.
abbrev pub nodes : Tree → ℕ
nodes (Literal n) = 1
nodes (Truth b) = 1
nodes (Variable v) = 1
nodes (Add x y) = 1 + nodes x + nodes y
nodes (Subtract x y) = 1 + nodes x + nodes y
nodes (Multiply x y) = 1 + nodes x + nodes y
nodes (Divide x y) = 1 + nodes x + nodes y
nodes (Remainder x y) = 1 + nodes x + nodes y
nodes (ByteAnd x y) = 1 + nodes x + nodes y
nodes (ByteOr x y) = 1 + nodes x + nodes y
nodes (ByteXor x y) = 1 + nodes x + nodes y
nodes (Parity x) = 1 + nodes x
nodes (Bit k x) = 1 + nodes x
nodes (Psw s z ac p cy) = 1 + nodes s + nodes z + nodes ac + nodes p + nodes cy
nodes (If p x y) = 1 + nodes p + nodes x + nodes y
nodes (Element m x) = 1 + nodes m + nodes x
nodes (Update m x y) = 1 + nodes m + nodes x + nodes y
nodes (Total m x y) = 1 + nodes m + nodes x + nodes y
nodes (Equal x y) = 1 + nodes x + nodes y
nodes (Less x y) = 1 + nodes x + nodes y
nodes (LessOrEqual x y) = 1 + nodes x + nodes y
nodes (Not p) = 1 + nodes p
nodes (And p q) = 1 + nodes p + nodes q
nodes (Or p q) = 1 + nodes p + nodes q
nodes (Implies p q) = 1 + nodes p + nodes q
nodes (Iff p q) = 1 + nodes p + nodes q
nodes (ForAll k x y p) = 1 + nodes x + nodes y + nodes p
nodes (ForSome k x y p) = 1 + nodes x + nodes y + nodes p

-- The depth of a node without parts is 1, that of any other one more than its deepest part's.
abbrev pub depth_of : Tree → ℕ
depth_of (Literal n) = 1
depth_of (Truth b) = 1
depth_of (Variable v) = 1
depth_of (Add x y) = 1 + max (depth_of x) (depth_of y)
depth_of (Subtract x y) = 1 + max (depth_of x) (depth_of y)
depth_of (Multiply x y) = 1 + max (depth_of x) (depth_of y)
depth_of (Divide x y) = 1 + max (depth_of x) (depth_of y)
depth_of (Remainder x y) = 1 + max (depth_of x) (depth_of y)
depth_of (ByteAnd x y) = 1 + max (depth_of x) (depth_of y)
depth_of (ByteOr x y) = 1 + max (depth_of x) (depth_of y)
depth_of (ByteXor x y) = 1 + max (depth_of x) (depth_of y)
depth_of (Parity x) = 1 + depth_of x
depth_of (Bit k x) = 1 + depth_of x
depth_of (Psw s z ac p cy) = 1 + max (max (max (max (depth_of s) (depth_of z)) (depth_of ac)) (depth_of p)) (depth_of cy)
depth_of (If p x y) = 1 + max (max (depth_of p) (depth_of x)) (depth_of y)
depth_of (Element m x) = 1 + max (depth_of m) (depth_of x)
depth_of (Update m x y) = 1 + max (max (depth_of m) (depth_of x)) (depth_of y)
depth_of (Total m x y) = 1 + max (max (depth_of m) (depth_of x)) (depth_of y)
depth_of (Equal x y) = 1 + max (depth_of x) (depth_of y)
depth_of (Less x y) = 1 + max (depth_of x) (depth_of y)
depth_of (LessOrEqual x y) = 1 + max (depth_of x) (depth_of y)
depth_of (Not p) = 1 + depth_of p
depth_of (And p q) = 1 + max (depth_of p) (depth_of q)
depth_of (Or p q) = 1 + max (depth_of p) (depth_of q)
depth_of (Implies p q) = 1 + max (depth_of p) (depth_of q)
depth_of (Iff p q) = 1 + max (depth_of p) (depth_of q)
depth_of (ForAll k x y p) = 1 + max (max (depth_of x) (depth_of y)) (depth_of p)
depth_of (ForSome k x y p) = 1 + max (max (depth_of x) (depth_of y)) (depth_of p)
