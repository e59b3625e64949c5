-- A tree has as many parts, with itself, as nodes.
use Rattle.std.proofs.Common.{◌+◌, ◌≡◌, ◌++◌, length, arith, refl}
use Rattle.std.proofs.lemmas.List.{length-append}
use Rattle.sp_term.specs.Tree.{Tree, nodes, Literal, Truth, Variable, Add, Subtract, Multiply, Divide, Remainder, ByteAnd, ByteOr, ByteXor, Parity, Bit, Psw, If, Element, Update, Total, Equal, Less, LessOrEqual, Not, And, Or, Implies, Iff, ForAll, ForSome}
use Rattle.sp_term.specs.Parts.{parts}

two : (x y : Tree) → length (parts x ++ parts y) ≡ length (parts x) + length (parts y)
two x y = length-append (parts x) (parts y)

three : (x y z : Tree) → length (parts x ++ parts y ++ parts z) ≡ length (parts x) + length (parts y) + length (parts z)
three x y z = omega (arith, length-append (parts x ++ parts y) (parts z), two x y)

pub parts_counted : (t : Tree) → length (parts t) ≡ nodes t
parts_counted (Literal n) = refl
parts_counted (Truth b) = refl
parts_counted (Variable v) = refl
parts_counted (Add x y) = omega (arith, two x y, parts_counted x, parts_counted y)
parts_counted (Subtract x y) = omega (arith, two x y, parts_counted x, parts_counted y)
parts_counted (Multiply x y) = omega (arith, two x y, parts_counted x, parts_counted y)
parts_counted (Divide x y) = omega (arith, two x y, parts_counted x, parts_counted y)
parts_counted (Remainder x y) = omega (arith, two x y, parts_counted x, parts_counted y)
parts_counted (ByteAnd x y) = omega (arith, two x y, parts_counted x, parts_counted y)
parts_counted (ByteOr x y) = omega (arith, two x y, parts_counted x, parts_counted y)
parts_counted (ByteXor x y) = omega (arith, two x y, parts_counted x, parts_counted y)
parts_counted (Parity x) = omega (arith, parts_counted x)
parts_counted (Bit k x) = omega (arith, parts_counted x)
parts_counted (Psw s z ac p cy) = omega (arith, length-append (parts s ++ parts z ++ parts ac ++ parts p) (parts cy), length-append (parts s ++ parts z ++ parts ac) (parts p), three s z ac, parts_counted s, parts_counted z, parts_counted ac, parts_counted p, parts_counted cy)
parts_counted (If p x y) = omega (arith, three p x y, parts_counted p, parts_counted x, parts_counted y)
parts_counted (Element m x) = omega (arith, two m x, parts_counted m, parts_counted x)
parts_counted (Update m x y) = omega (arith, three m x y, parts_counted m, parts_counted x, parts_counted y)
parts_counted (Total m x y) = omega (arith, three m x y, parts_counted m, parts_counted x, parts_counted y)
parts_counted (Equal x y) = omega (arith, two x y, parts_counted x, parts_counted y)
parts_counted (Less x y) = omega (arith, two x y, parts_counted x, parts_counted y)
parts_counted (LessOrEqual x y) = omega (arith, two x y, parts_counted x, parts_counted y)
parts_counted (Not p) = omega (arith, parts_counted p)
parts_counted (And p q) = omega (arith, two p q, parts_counted p, parts_counted q)
parts_counted (Or p q) = omega (arith, two p q, parts_counted p, parts_counted q)
parts_counted (Implies p q) = omega (arith, two p q, parts_counted p, parts_counted q)
parts_counted (Iff p q) = omega (arith, two p q, parts_counted p, parts_counted q)
parts_counted (ForAll k x y p) = omega (arith, three x y p, parts_counted x, parts_counted y, parts_counted p)
parts_counted (ForSome k x y p) = omega (arith, three x y p, parts_counted x, parts_counted y, parts_counted p)
