-- Two shapes: where the test of code says that they are one, and where their trees are one.
use Rattle.std.proofs.Common.{ℕ, ◌<◌, ◌≡◌, true, nat_eq, arith, rules, List, length, ap}
use Rattle.std.proofs.lemmas.Bool.{eqb-true}
use Rattle.std.proofs.lemmas.Bool.Decides.{Decides-int_eq}
use Rattle.sp_term.specs.declared.shape.Node.{Node}
use Rattle.sp_term.specs.declared.shape.Shape.{Shape}
use Rattle.sp_term.specs.declared.shape.Shape.TheVariants as shape
use Rattle.sp_term.specs.Tree.{Tree}
use Rattle.sp_term.specs.Pools.{tree_at, shape_tree, IsBelow, IsDistinct}
use Rattle.sp_term.specs.contracts.shape.ShapePartialEq.TheImpl.{eq-value}

node_same : (a b : Node) → nat_eq a.0 b.0 ≡ true → a ≡ b
node_same a b h = ap (λ (n : ℕ). record { 0 = n }) (eqb-true a.0 b.0 h)

-- shapes that the test takes for one are one
pub shape_same : (x y : Shape) → eq-value.it x y ≡ true → x ≡ y
shape_same (shape.Literal n1) (shape.Literal n2) h = grind (arith, Decides-int_eq)
shape_same (shape.Truth b1) (shape.Truth b2) h = search rules
shape_same (shape.Variable w1) (shape.Variable w2) h = search rules
shape_same (shape.Add x1 y1) (shape.Add x2 y2) h = grind (arith, node_same)
shape_same (shape.Subtract x1 y1) (shape.Subtract x2 y2) h = grind (arith, node_same)
shape_same (shape.Multiply x1 y1) (shape.Multiply x2 y2) h = grind (arith, node_same)
shape_same (shape.Divide x1 y1) (shape.Divide x2 y2) h = grind (arith, node_same)
shape_same (shape.Remainder x1 y1) (shape.Remainder x2 y2) h = grind (arith, node_same)
shape_same (shape.ByteAnd x1 y1) (shape.ByteAnd x2 y2) h = grind (arith, node_same)
shape_same (shape.ByteOr x1 y1) (shape.ByteOr x2 y2) h = grind (arith, node_same)
shape_same (shape.ByteXor x1 y1) (shape.ByteXor x2 y2) h = grind (arith, node_same)
shape_same (shape.Parity x1) (shape.Parity x2) h = grind (arith, node_same)
shape_same (shape.Bit k1 x1) (shape.Bit k2 x2) h = grind (arith, node_same, eqb-true)
shape_same (shape.Psw s1 z1 ac1 p1 cy1) (shape.Psw s2 z2 ac2 p2 cy2) h = grind (arith, node_same)
shape_same (shape.If p1 x1 y1) (shape.If p2 x2 y2) h = grind (arith, node_same)
shape_same (shape.Element m1 x1) (shape.Element m2 x2) h = grind (arith, node_same)
shape_same (shape.Update m1 x1 y1) (shape.Update m2 x2 y2) h = grind (arith, node_same)
shape_same (shape.Total m1 x1 y1) (shape.Total m2 x2 y2) h = grind (arith, node_same)
shape_same (shape.Equal x1 y1) (shape.Equal x2 y2) h = grind (arith, node_same)
shape_same (shape.Less x1 y1) (shape.Less x2 y2) h = grind (arith, node_same)
shape_same (shape.LessOrEqual x1 y1) (shape.LessOrEqual x2 y2) h = grind (arith, node_same)
shape_same (shape.Not p1) (shape.Not p2) h = grind (arith, node_same)
shape_same (shape.And p1 q1) (shape.And p2 q2) h = grind (arith, node_same)
shape_same (shape.Or p1 q1) (shape.Or p2 q2) h = grind (arith, node_same)
shape_same (shape.Implies p1 q1) (shape.Implies p2 q2) h = grind (arith, node_same)
shape_same (shape.Iff p1 q1) (shape.Iff p2 q2) h = grind (arith, node_same)
shape_same (shape.ForAll k1 x1 y1 p1) (shape.ForAll k2 x2 y2 p2) h = grind (arith, node_same, eqb-true)
shape_same (shape.ForSome k1 x1 y1 p1) (shape.ForSome k2 x2 y2 p2) h = grind (arith, node_same, eqb-true)
shape_same _ _ h = cc

pub shape_self : (x : Shape) → eq-value.it x x ≡ true
shape_self _ = search rules

node_one : (ts : List Tree) → IsDistinct ts → (a b : Node) → a.0 < length ts → b.0 < length ts → tree_at ts a.0 ≡ tree_at ts b.0 → a ≡ b
node_one ts d a b p q h = ap (λ (n : ℕ). record { 0 = n }) (d a.0 b.0 p q h)

-- in a list without doubles, shapes of one tree are one
pub shape_one : (ts : List Tree) → IsDistinct ts → (x y : Shape) → IsBelow (length ts) x → IsBelow (length ts) y → shape_tree ts x ≡ shape_tree ts y → x ≡ y
shape_one ts distinct (shape.Literal n1) (shape.Literal n2) l r h = cc
shape_one ts distinct (shape.Truth b1) (shape.Truth b2) l r h = cc
shape_one ts distinct (shape.Variable w1) (shape.Variable w2) l r h = cc
shape_one ts distinct (shape.Add x1 y1) (shape.Add x2 y2) l r h =
    let same_x : x1 ≡ x2 = node_one ts distinct x1 x2 l.0 r.0 (cc) in
    let same_y : y1 ≡ y2 = node_one ts distinct y1 y2 l.1 r.1 (cc) in
    cc
shape_one ts distinct (shape.Subtract x1 y1) (shape.Subtract x2 y2) l r h =
    let same_x : x1 ≡ x2 = node_one ts distinct x1 x2 l.0 r.0 (cc) in
    let same_y : y1 ≡ y2 = node_one ts distinct y1 y2 l.1 r.1 (cc) in
    cc
shape_one ts distinct (shape.Multiply x1 y1) (shape.Multiply x2 y2) l r h =
    let same_x : x1 ≡ x2 = node_one ts distinct x1 x2 l.0 r.0 (cc) in
    let same_y : y1 ≡ y2 = node_one ts distinct y1 y2 l.1 r.1 (cc) in
    cc
shape_one ts distinct (shape.Divide x1 y1) (shape.Divide x2 y2) l r h =
    let same_x : x1 ≡ x2 = node_one ts distinct x1 x2 l.0 r.0 (cc) in
    let same_y : y1 ≡ y2 = node_one ts distinct y1 y2 l.1 r.1 (cc) in
    cc
shape_one ts distinct (shape.Remainder x1 y1) (shape.Remainder x2 y2) l r h =
    let same_x : x1 ≡ x2 = node_one ts distinct x1 x2 l.0 r.0 (cc) in
    let same_y : y1 ≡ y2 = node_one ts distinct y1 y2 l.1 r.1 (cc) in
    cc
shape_one ts distinct (shape.ByteAnd x1 y1) (shape.ByteAnd x2 y2) l r h =
    let same_x : x1 ≡ x2 = node_one ts distinct x1 x2 l.0 r.0 (cc) in
    let same_y : y1 ≡ y2 = node_one ts distinct y1 y2 l.1 r.1 (cc) in
    cc
shape_one ts distinct (shape.ByteOr x1 y1) (shape.ByteOr x2 y2) l r h =
    let same_x : x1 ≡ x2 = node_one ts distinct x1 x2 l.0 r.0 (cc) in
    let same_y : y1 ≡ y2 = node_one ts distinct y1 y2 l.1 r.1 (cc) in
    cc
shape_one ts distinct (shape.ByteXor x1 y1) (shape.ByteXor x2 y2) l r h =
    let same_x : x1 ≡ x2 = node_one ts distinct x1 x2 l.0 r.0 (cc) in
    let same_y : y1 ≡ y2 = node_one ts distinct y1 y2 l.1 r.1 (cc) in
    cc
shape_one ts distinct (shape.Parity x1) (shape.Parity x2) l r h =
    let same_x : x1 ≡ x2 = node_one ts distinct x1 x2 l r (cc) in
    cc
shape_one ts distinct (shape.Bit k1 x1) (shape.Bit k2 x2) l r h =
    let same_x : x1 ≡ x2 = node_one ts distinct x1 x2 l r (cc) in
    cc
shape_one ts distinct (shape.Psw s1 z1 ac1 p1 cy1) (shape.Psw s2 z2 ac2 p2 cy2) l r h =
    let same_s : s1 ≡ s2 = node_one ts distinct s1 s2 l.0 r.0 (cc) in
    let same_z : z1 ≡ z2 = node_one ts distinct z1 z2 l.1 r.1 (cc) in
    let same_ac : ac1 ≡ ac2 = node_one ts distinct ac1 ac2 l.2 r.2 (cc) in
    let same_p : p1 ≡ p2 = node_one ts distinct p1 p2 l.3 r.3 (cc) in
    let same_cy : cy1 ≡ cy2 = node_one ts distinct cy1 cy2 l.4 r.4 (cc) in
    cc
shape_one ts distinct (shape.If p1 x1 y1) (shape.If p2 x2 y2) l r h =
    let same_p : p1 ≡ p2 = node_one ts distinct p1 p2 l.0 r.0 (cc) in
    let same_x : x1 ≡ x2 = node_one ts distinct x1 x2 l.1 r.1 (cc) in
    let same_y : y1 ≡ y2 = node_one ts distinct y1 y2 l.2 r.2 (cc) in
    cc
shape_one ts distinct (shape.Element m1 x1) (shape.Element m2 x2) l r h =
    let same_m : m1 ≡ m2 = node_one ts distinct m1 m2 l.0 r.0 (cc) in
    let same_x : x1 ≡ x2 = node_one ts distinct x1 x2 l.1 r.1 (cc) in
    cc
shape_one ts distinct (shape.Update m1 x1 y1) (shape.Update m2 x2 y2) l r h =
    let same_m : m1 ≡ m2 = node_one ts distinct m1 m2 l.0 r.0 (cc) in
    let same_x : x1 ≡ x2 = node_one ts distinct x1 x2 l.1 r.1 (cc) in
    let same_y : y1 ≡ y2 = node_one ts distinct y1 y2 l.2 r.2 (cc) in
    cc
shape_one ts distinct (shape.Total m1 x1 y1) (shape.Total m2 x2 y2) l r h =
    let same_m : m1 ≡ m2 = node_one ts distinct m1 m2 l.0 r.0 (cc) in
    let same_x : x1 ≡ x2 = node_one ts distinct x1 x2 l.1 r.1 (cc) in
    let same_y : y1 ≡ y2 = node_one ts distinct y1 y2 l.2 r.2 (cc) in
    cc
shape_one ts distinct (shape.Equal x1 y1) (shape.Equal x2 y2) l r h =
    let same_x : x1 ≡ x2 = node_one ts distinct x1 x2 l.0 r.0 (cc) in
    let same_y : y1 ≡ y2 = node_one ts distinct y1 y2 l.1 r.1 (cc) in
    cc
shape_one ts distinct (shape.Less x1 y1) (shape.Less x2 y2) l r h =
    let same_x : x1 ≡ x2 = node_one ts distinct x1 x2 l.0 r.0 (cc) in
    let same_y : y1 ≡ y2 = node_one ts distinct y1 y2 l.1 r.1 (cc) in
    cc
shape_one ts distinct (shape.LessOrEqual x1 y1) (shape.LessOrEqual x2 y2) l r h =
    let same_x : x1 ≡ x2 = node_one ts distinct x1 x2 l.0 r.0 (cc) in
    let same_y : y1 ≡ y2 = node_one ts distinct y1 y2 l.1 r.1 (cc) in
    cc
shape_one ts distinct (shape.Not p1) (shape.Not p2) l r h =
    let same_p : p1 ≡ p2 = node_one ts distinct p1 p2 l r (cc) in
    cc
shape_one ts distinct (shape.And p1 q1) (shape.And p2 q2) l r h =
    let same_p : p1 ≡ p2 = node_one ts distinct p1 p2 l.0 r.0 (cc) in
    let same_q : q1 ≡ q2 = node_one ts distinct q1 q2 l.1 r.1 (cc) in
    cc
shape_one ts distinct (shape.Or p1 q1) (shape.Or p2 q2) l r h =
    let same_p : p1 ≡ p2 = node_one ts distinct p1 p2 l.0 r.0 (cc) in
    let same_q : q1 ≡ q2 = node_one ts distinct q1 q2 l.1 r.1 (cc) in
    cc
shape_one ts distinct (shape.Implies p1 q1) (shape.Implies p2 q2) l r h =
    let same_p : p1 ≡ p2 = node_one ts distinct p1 p2 l.0 r.0 (cc) in
    let same_q : q1 ≡ q2 = node_one ts distinct q1 q2 l.1 r.1 (cc) in
    cc
shape_one ts distinct (shape.Iff p1 q1) (shape.Iff p2 q2) l r h =
    let same_p : p1 ≡ p2 = node_one ts distinct p1 p2 l.0 r.0 (cc) in
    let same_q : q1 ≡ q2 = node_one ts distinct q1 q2 l.1 r.1 (cc) in
    cc
shape_one ts distinct (shape.ForAll k1 x1 y1 p1) (shape.ForAll k2 x2 y2 p2) l r h =
    let same_x : x1 ≡ x2 = node_one ts distinct x1 x2 l.0 r.0 (cc) in
    let same_y : y1 ≡ y2 = node_one ts distinct y1 y2 l.1 r.1 (cc) in
    let same_p : p1 ≡ p2 = node_one ts distinct p1 p2 l.2 r.2 (cc) in
    cc
shape_one ts distinct (shape.ForSome k1 x1 y1 p1) (shape.ForSome k2 x2 y2 p2) l r h =
    let same_x : x1 ≡ x2 = node_one ts distinct x1 x2 l.0 r.0 (cc) in
    let same_y : y1 ≡ y2 = node_one ts distinct y1 y2 l.1 r.1 (cc) in
    let same_p : p1 ≡ p2 = node_one ts distinct p1 p2 l.2 r.2 (cc) in
    cc
shape_one ts distinct _ _ l r h = cc
