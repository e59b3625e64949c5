-- A term in which another one is replaced, the outermost places first (this project's own).
use Rattle.std.specs.Prelude.{Bool, ◌||◌, if◌then◌else◌}
use Rattle.sp_term.specs.Tree.{Tree, Literal, Truth, Variable, Add, Subtract, Multiply, Divide, Remainder, ByteAnd, ByteOr, ByteXor, Parity, Bit, Psw, If, Element, Update, Total, Equal, Less, LessOrEqual, Not, And, Or, Implies, Iff, ForAll, ForSome}
use Rattle.sp_simp.specs.Same.{tree_eq}

-- whether x stands in a tree: it is the tree, or stands in a part of it
abbrev pub stands_in_tree : Tree → Tree → Bool
stands_in_tree x (Literal n) = tree_eq x (Literal n)
stands_in_tree x (Truth b) = tree_eq x (Truth b)
stands_in_tree x (Variable v) = tree_eq x (Variable v)
stands_in_tree x (Add a b) = tree_eq x (Add a b) || stands_in_tree x a || stands_in_tree x b
stands_in_tree x (Subtract a b) = tree_eq x (Subtract a b) || stands_in_tree x a || stands_in_tree x b
stands_in_tree x (Multiply a b) = tree_eq x (Multiply a b) || stands_in_tree x a || stands_in_tree x b
stands_in_tree x (Divide a b) = tree_eq x (Divide a b) || stands_in_tree x a || stands_in_tree x b
stands_in_tree x (Remainder a b) = tree_eq x (Remainder a b) || stands_in_tree x a || stands_in_tree x b
stands_in_tree x (ByteAnd a b) = tree_eq x (ByteAnd a b) || stands_in_tree x a || stands_in_tree x b
stands_in_tree x (ByteOr a b) = tree_eq x (ByteOr a b) || stands_in_tree x a || stands_in_tree x b
stands_in_tree x (ByteXor a b) = tree_eq x (ByteXor a b) || stands_in_tree x a || stands_in_tree x b
stands_in_tree x (Parity a) = tree_eq x (Parity a) || stands_in_tree x a
stands_in_tree x (Bit k a) = tree_eq x (Bit k a) || stands_in_tree x a
stands_in_tree x (Psw a b c d e) = tree_eq x (Psw a b c d e) || stands_in_tree x a || stands_in_tree x b || stands_in_tree x c || stands_in_tree x d || stands_in_tree x e
stands_in_tree x (If p a b) = tree_eq x (If p a b) || stands_in_tree x p || stands_in_tree x a || stands_in_tree x b
stands_in_tree x (Element m a) = tree_eq x (Element m a) || stands_in_tree x m || stands_in_tree x a
stands_in_tree x (Update m a b) = tree_eq x (Update m a b) || stands_in_tree x m || stands_in_tree x a || stands_in_tree x b
stands_in_tree x (Total m a b) = tree_eq x (Total m a b) || stands_in_tree x m || stands_in_tree x a || stands_in_tree x b
stands_in_tree x (Equal a b) = tree_eq x (Equal a b) || stands_in_tree x a || stands_in_tree x b
stands_in_tree x (Less a b) = tree_eq x (Less a b) || stands_in_tree x a || stands_in_tree x b
stands_in_tree x (LessOrEqual a b) = tree_eq x (LessOrEqual a b) || stands_in_tree x a || stands_in_tree x b
stands_in_tree x (Not p) = tree_eq x (Not p) || stands_in_tree x p
stands_in_tree x (And p q) = tree_eq x (And p q) || stands_in_tree x p || stands_in_tree x q
stands_in_tree x (Or p q) = tree_eq x (Or p q) || stands_in_tree x p || stands_in_tree x q
stands_in_tree x (Implies p q) = tree_eq x (Implies p q) || stands_in_tree x p || stands_in_tree x q
stands_in_tree x (Iff p q) = tree_eq x (Iff p q) || stands_in_tree x p || stands_in_tree x q
stands_in_tree x (ForAll k a b p) = tree_eq x (ForAll k a b p) || stands_in_tree x a || stands_in_tree x b || stands_in_tree x p
stands_in_tree x (ForSome k a b p) = tree_eq x (ForSome k a b p) || stands_in_tree x a || stands_in_tree x b || stands_in_tree x p

-- The tree with y in each place of x. What was put in isn't looked at again, nor are the parts of x.
abbrev pub rewritten : Tree → Tree → Tree → Tree
rewritten x y (Literal n) = if tree_eq x (Literal n) then y else Literal n
rewritten x y (Truth b) = if tree_eq x (Truth b) then y else Truth b
rewritten x y (Variable v) = if tree_eq x (Variable v) then y else Variable v
rewritten x y (Add a b) = if tree_eq x (Add a b) then y else Add (rewritten x y a) (rewritten x y b)
rewritten x y (Subtract a b) = if tree_eq x (Subtract a b) then y else Subtract (rewritten x y a) (rewritten x y b)
rewritten x y (Multiply a b) = if tree_eq x (Multiply a b) then y else Multiply (rewritten x y a) (rewritten x y b)
rewritten x y (Divide a b) = if tree_eq x (Divide a b) then y else Divide (rewritten x y a) (rewritten x y b)
rewritten x y (Remainder a b) = if tree_eq x (Remainder a b) then y else Remainder (rewritten x y a) (rewritten x y b)
rewritten x y (ByteAnd a b) = if tree_eq x (ByteAnd a b) then y else ByteAnd (rewritten x y a) (rewritten x y b)
rewritten x y (ByteOr a b) = if tree_eq x (ByteOr a b) then y else ByteOr (rewritten x y a) (rewritten x y b)
rewritten x y (ByteXor a b) = if tree_eq x (ByteXor a b) then y else ByteXor (rewritten x y a) (rewritten x y b)
rewritten x y (Parity a) = if tree_eq x (Parity a) then y else Parity (rewritten x y a)
rewritten x y (Bit k a) = if tree_eq x (Bit k a) then y else Bit k (rewritten x y a)
rewritten x y (Psw a b c d e) = if tree_eq x (Psw a b c d e) then y else Psw (rewritten x y a) (rewritten x y b) (rewritten x y c) (rewritten x y d) (rewritten x y e)
rewritten x y (If p a b) = if tree_eq x (If p a b) then y else If (rewritten x y p) (rewritten x y a) (rewritten x y b)
rewritten x y (Element m a) = if tree_eq x (Element m a) then y else Element (rewritten x y m) (rewritten x y a)
rewritten x y (Update m a b) = if tree_eq x (Update m a b) then y else Update (rewritten x y m) (rewritten x y a) (rewritten x y b)
rewritten x y (Total m a b) = if tree_eq x (Total m a b) then y else Total (rewritten x y m) (rewritten x y a) (rewritten x y b)
rewritten x y (Equal a b) = if tree_eq x (Equal a b) then y else Equal (rewritten x y a) (rewritten x y b)
rewritten x y (Less a b) = if tree_eq x (Less a b) then y else Less (rewritten x y a) (rewritten x y b)
rewritten x y (LessOrEqual a b) = if tree_eq x (LessOrEqual a b) then y else LessOrEqual (rewritten x y a) (rewritten x y b)
rewritten x y (Not p) = if tree_eq x (Not p) then y else Not (rewritten x y p)
rewritten x y (And p q) = if tree_eq x (And p q) then y else And (rewritten x y p) (rewritten x y q)
rewritten x y (Or p q) = if tree_eq x (Or p q) then y else Or (rewritten x y p) (rewritten x y q)
rewritten x y (Implies p q) = if tree_eq x (Implies p q) then y else Implies (rewritten x y p) (rewritten x y q)
rewritten x y (Iff p q) = if tree_eq x (Iff p q) then y else Iff (rewritten x y p) (rewritten x y q)
rewritten x y (ForAll k a b p) = if tree_eq x (ForAll k a b p) then y else ForAll k (rewritten x y a) (rewritten x y b) (rewritten x y p)
rewritten x y (ForSome k a b p) = if tree_eq x (ForSome k a b p) then y else ForSome k (rewritten x y a) (rewritten x y b) (rewritten x y p)
