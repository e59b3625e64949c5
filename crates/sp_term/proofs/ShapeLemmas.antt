-- A shape over a list of trees that grows.
use Rattle.std.proofs.Common.{ℕ, ◌<◌, ◌≡◌, arith, List, length}
use Rattle.sp_term.specs.declared.shape.Shape.{Shape}
use Rattle.sp_term.specs.declared.shape.Shape.TheVariants as shape
use Rattle.sp_term.specs.Tree.{Tree, Literal, Truth, Variable, Add, Subtract, Multiply, Divide, Remainder, ByteAnd, ByteOr, ByteXor, Parity, Bit, Psw, If, Element, Update, Total, Equal, Less, LessOrEqual, Not, And, Or, Implies, Iff, ForAll, ForSome}
use Rattle.sp_term.specs.Pools.{shape_tree, IsBelow, Grows}

pub shape_below : (s : Shape) (m n : ℕ) → m < n → IsBelow m s → IsBelow n s
shape_below (shape.Literal _) low high h b = tt
shape_below (shape.Truth _) low high h b = tt
shape_below (shape.Variable _) low high h b = tt
shape_below (shape.Add x y) low high h b = (omega arith, omega arith)
shape_below (shape.Subtract x y) low high h b = (omega arith, omega arith)
shape_below (shape.Multiply x y) low high h b = (omega arith, omega arith)
shape_below (shape.Divide x y) low high h b = (omega arith, omega arith)
shape_below (shape.Remainder x y) low high h b = (omega arith, omega arith)
shape_below (shape.ByteAnd x y) low high h b = (omega arith, omega arith)
shape_below (shape.ByteOr x y) low high h b = (omega arith, omega arith)
shape_below (shape.ByteXor x y) low high h b = (omega arith, omega arith)
shape_below (shape.Parity x) low high h b = omega arith
shape_below (shape.Bit _ x) low high h b = omega arith
shape_below (shape.Psw s z ac p cy) low high h b = (omega arith, omega arith, omega arith, omega arith, omega arith)
shape_below (shape.If p x y) low high h b = (omega arith, omega arith, omega arith)
shape_below (shape.Element m x) low high h b = (omega arith, omega arith)
shape_below (shape.Update m x y) low high h b = (omega arith, omega arith, omega arith)
shape_below (shape.Total m x y) low high h b = (omega arith, omega arith, omega arith)
shape_below (shape.Equal x y) low high h b = (omega arith, omega arith)
shape_below (shape.Less x y) low high h b = (omega arith, omega arith)
shape_below (shape.LessOrEqual x y) low high h b = (omega arith, omega arith)
shape_below (shape.Not p) low high h b = omega arith
shape_below (shape.And p q) low high h b = (omega arith, omega arith)
shape_below (shape.Or p q) low high h b = (omega arith, omega arith)
shape_below (shape.Implies p q) low high h b = (omega arith, omega arith)
shape_below (shape.Iff p q) low high h b = (omega arith, omega arith)
shape_below (shape.ForAll _ x y p) low high h b = (omega arith, omega arith, omega arith)
shape_below (shape.ForSome _ x y p) low high h b = (omega arith, omega arith, omega arith)

pub shape_grown : (old new : List Tree) → Grows old new → (s : Shape) → IsBelow (length old) s → shape_tree new s ≡ shape_tree old s
shape_grown old new g (shape.Literal n) below = λ i. Literal n
shape_grown old new g (shape.Truth b) below = λ i. Truth b
shape_grown old new g (shape.Variable w) below = λ i. Variable w
shape_grown old new g (shape.Add x y) below = λ i. Add (g.same x.0 below.0 i) (g.same y.0 below.1 i)
shape_grown old new g (shape.Subtract x y) below = λ i. Subtract (g.same x.0 below.0 i) (g.same y.0 below.1 i)
shape_grown old new g (shape.Multiply x y) below = λ i. Multiply (g.same x.0 below.0 i) (g.same y.0 below.1 i)
shape_grown old new g (shape.Divide x y) below = λ i. Divide (g.same x.0 below.0 i) (g.same y.0 below.1 i)
shape_grown old new g (shape.Remainder x y) below = λ i. Remainder (g.same x.0 below.0 i) (g.same y.0 below.1 i)
shape_grown old new g (shape.ByteAnd x y) below = λ i. ByteAnd (g.same x.0 below.0 i) (g.same y.0 below.1 i)
shape_grown old new g (shape.ByteOr x y) below = λ i. ByteOr (g.same x.0 below.0 i) (g.same y.0 below.1 i)
shape_grown old new g (shape.ByteXor x y) below = λ i. ByteXor (g.same x.0 below.0 i) (g.same y.0 below.1 i)
shape_grown old new g (shape.Parity x) below = λ i. Parity (g.same x.0 below i)
shape_grown old new g (shape.Bit k x) below = λ i. Bit k (g.same x.0 below i)
shape_grown old new g (shape.Psw f z ac p cy) below = λ i. Psw (g.same f.0 below.0 i) (g.same z.0 below.1 i) (g.same ac.0 below.2 i) (g.same p.0 below.3 i) (g.same cy.0 below.4 i)
shape_grown old new g (shape.If p x y) below = λ i. If (g.same p.0 below.0 i) (g.same x.0 below.1 i) (g.same y.0 below.2 i)
shape_grown old new g (shape.Element m x) below = λ i. Element (g.same m.0 below.0 i) (g.same x.0 below.1 i)
shape_grown old new g (shape.Update m x y) below = λ i. Update (g.same m.0 below.0 i) (g.same x.0 below.1 i) (g.same y.0 below.2 i)
shape_grown old new g (shape.Total m x y) below = λ i. Total (g.same m.0 below.0 i) (g.same x.0 below.1 i) (g.same y.0 below.2 i)
shape_grown old new g (shape.Equal x y) below = λ i. Equal (g.same x.0 below.0 i) (g.same y.0 below.1 i)
shape_grown old new g (shape.Less x y) below = λ i. Less (g.same x.0 below.0 i) (g.same y.0 below.1 i)
shape_grown old new g (shape.LessOrEqual x y) below = λ i. LessOrEqual (g.same x.0 below.0 i) (g.same y.0 below.1 i)
shape_grown old new g (shape.Not p) below = λ i. Not (g.same p.0 below i)
shape_grown old new g (shape.And p q) below = λ i. And (g.same p.0 below.0 i) (g.same q.0 below.1 i)
shape_grown old new g (shape.Or p q) below = λ i. Or (g.same p.0 below.0 i) (g.same q.0 below.1 i)
shape_grown old new g (shape.Implies p q) below = λ i. Implies (g.same p.0 below.0 i) (g.same q.0 below.1 i)
shape_grown old new g (shape.Iff p q) below = λ i. Iff (g.same p.0 below.0 i) (g.same q.0 below.1 i)
shape_grown old new g (shape.ForAll k x y p) below = λ i. ForAll k (g.same x.0 below.0 i) (g.same y.0 below.1 i) (g.same p.0 below.2 i)
shape_grown old new g (shape.ForSome k x y p) below = λ i. ForSome k (g.same x.0 below.0 i) (g.same y.0 below.1 i) (g.same p.0 below.2 i)
