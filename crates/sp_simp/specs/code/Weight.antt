-- A number that each rule lowers.
use Rattle.std.specs.Prelude.{ℕ, ◌+◌, ◌*◌, ◌<◌, if◌then◌else◌, ℤ, Option, Some, None}
use Rattle.sp_term.specs.Tree.{Tree, Literal, Truth, Variable, Add, Subtract, Multiply, Divide, Remainder, ByteAnd, ByteOr, ByteXor, Parity, Bit, Psw, If, Element, Update, Total, Equal, Less, LessOrEqual, Not, And, Or, Implies, Iff, ForAll, ForSome}
use Rattle.sp_term.specs.Intervals.{literal}
use Rattle.sp_simp.specs.Rules.{Right, Is, Made, MadePlus, MadeModulo, offset, is_beyond}

-- a sum weighs less with a literal on its right
abbrev pub sum_weight : Option ℤ → ℕ → ℕ → ℕ
sum_weight (Some c) x y = x + 1
sum_weight None x y = 2 * x + 2 * y

-- a product weighs less with a literal on its left
abbrev pub product_weight : Option ℤ → ℕ → ℕ → ℕ
product_weight (Some c) x y = 2 * y
product_weight None x y = 2 * x + 2 * y

-- a remainder weighs more where an offset is beyond its divisor
abbrev pub beyond : Option (Tree × ℤ) → Option ℤ → ℕ
beyond (Some p) (Some d) = if is_beyond p.1 d then 1 else 0
beyond _ _ = 0

-- an equation weighs more with a literal on its left alone
abbrev pub turned : Option ℤ → Option ℤ → ℕ
turned (Some c) None = 1
turned _ _ = 0

unfoldable pub weight : Tree → ℕ
weight (Literal n) = 1
weight (Truth b) = 2
weight (Variable v) = 2
weight (Add x y) = sum_weight (literal y) (weight x) (weight y)
weight (Subtract x y) = 2 * weight x + 2 * weight y
weight (Multiply x y) = product_weight (literal x) (weight x) (weight y)
weight (Divide x y) = 2 * weight x + 2 * weight y
weight (Remainder x y) = beyond (offset x) (literal y) + 2 * weight x + 2 * weight y
weight (ByteAnd x y) = 2 + 2 * weight x + 2 * weight y
weight (ByteOr x y) = 2 + 2 * weight x + 2 * weight y
weight (ByteXor x y) = 2 + 2 * weight x + 2 * weight y
weight (Parity x) = 1 + weight x
weight (Bit k x) = 1 + weight x
weight (Psw s z ac p cy) = 1 + weight s + weight z + weight ac + weight p + weight cy
weight (If p x y) = 1 + weight p + weight x + weight y
weight (Element m x) = 1 + weight m + weight x
weight (Update m x y) = 1 + weight m + weight x + weight y
weight (Total m x y) = 2 + weight m + weight x + weight y
weight (Equal x y) = turned (literal x) (literal y) + 1 + weight x + weight y
weight (Less x y) = 1 + weight x + weight y
weight (LessOrEqual x y) = 1 + weight x + weight y
weight (Not p) = 1 + weight p
weight (And p q) = 1 + weight p + weight q
weight (Or p q) = 1 + weight p + weight q
weight (Implies p q) = 1 + weight p + weight q
weight (Iff p q) = 1 + weight p + weight q
weight (ForAll k x y p) = 1 + weight x + weight y + weight p
weight (ForSome k x y p) = 1 + weight x + weight y + weight p

-- each node that a right side leads to weighs less than n
abbrev pub Falls : Right → ℕ → Type 0
Falls (Is t) n = weight t < n
Falls (Made t) n = weight t < n
Falls (MadePlus t c) n = weight t + 1 < n
Falls (MadeModulo t c) n = (weight t < n) × (weight (Remainder t (Literal c)) < n) × (2 * weight t + 1 < n)
