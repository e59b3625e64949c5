-- The tree that a node of an arena stands for.
use Rattle.sp_term.specs.declared.term.Kind.{Kind}
use Rattle.sp_term.specs.declared.term.Kind.TheVariants as kind
use Rattle.sp_term.specs.Tree.{Tree, Literal, Truth, Variable, Add, Subtract, Multiply, Divide, Remainder, ByteAnd, ByteOr, ByteXor, Parity, Bit, Psw, If, Element, Update, Total, Equal, Less, LessOrEqual, Not, And, Or, Implies, Iff, ForAll, ForSome}

abbrev pub tree_of : Kind → Tree
tree_of (kind.Literal n) = Literal n
tree_of (kind.Truth b) = Truth b
tree_of (kind.Variable v) = Variable v
tree_of (kind.Add x y) = Add x.now y.now
tree_of (kind.Subtract x y) = Subtract x.now y.now
tree_of (kind.Multiply x y) = Multiply x.now y.now
tree_of (kind.Divide x y) = Divide x.now y.now
tree_of (kind.Remainder x y) = Remainder x.now y.now
tree_of (kind.ByteAnd x y) = ByteAnd x.now y.now
tree_of (kind.ByteOr x y) = ByteOr x.now y.now
tree_of (kind.ByteXor x y) = ByteXor x.now y.now
tree_of (kind.Parity x) = Parity x.now
tree_of (kind.Bit k x) = Bit k x.now
tree_of (kind.Psw s z ac p cy) = Psw s.now z.now ac.now p.now cy.now
tree_of (kind.If p x y) = If p.now x.now y.now
tree_of (kind.Element m x) = Element m.now x.now
tree_of (kind.Update m x y) = Update m.now x.now y.now
tree_of (kind.Total m x y) = Total m.now x.now y.now
tree_of (kind.Equal x y) = Equal x.now y.now
tree_of (kind.Less x y) = Less x.now y.now
tree_of (kind.LessOrEqual x y) = LessOrEqual x.now y.now
tree_of (kind.Not p) = Not p.now
tree_of (kind.And p q) = And p.now q.now
tree_of (kind.Or p q) = Or p.now q.now
tree_of (kind.Implies p q) = Implies p.now q.now
tree_of (kind.Iff p q) = Iff p.now q.now
tree_of (kind.ForAll k x y p) = ForAll k x.now y.now p.now
tree_of (kind.ForSome k x y p) = ForSome k x.now y.now p.now
