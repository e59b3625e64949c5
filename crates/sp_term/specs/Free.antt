-- Free variables of a tree, and what comes in the place of one (this project's own).
use Rattle.std.specs.Prelude.{◌≡◌, ℕ, ◌==◌, Bool, true, false, ◌&&◌, ◌||◌, not, if◌then◌else◌}
use Rattle.sp_base.specs.Locs.{place}
use Rattle.sp_term.specs.declared.var.Var.{Var}
use Rattle.sp_term.specs.declared.var.Var.TheVariants as var
use Rattle.sp_term.specs.Tree.{Tree, Literal, Truth, Variable, Add, Subtract, Multiply, Divide, Remainder, ByteAnd, ByteOr, ByteXor, Parity, Bit, Psw, If, Element, Update, Total, Equal, Less, LessOrEqual, Not, And, Or, Implies, Iff, ForAll, ForSome}

-- whether two variables are one
abbrev pub var_eq : Var → Var → Bool
var_eq (var.Entry x) (var.Entry y) = place x == place y
var_eq (var.Now x) (var.Now y) = place x == place y
var_eq (var.After x i) (var.After y j) = place x == place y && i == j
var_eq var.MemEntry var.MemEntry = true
var_eq var.Mem var.Mem = true
var_eq (var.MemAfter i) (var.MemAfter j) = i == j
var_eq (var.In i) (var.In j) = i == j
var_eq (var.SlotHigh i) (var.SlotHigh j) = i == j
var_eq (var.SlotLow i) (var.SlotLow j) = i == j
var_eq (var.Any i) (var.Any j) = i == j
var_eq (var.Bound i) (var.Bound j) = i == j
var_eq v w = false

-- whether a variable stands free in a tree; a quantifier's variable is bound in its formula alone, not in its two ends
abbrev pub is_free : Var → Tree → Bool
is_free v (Literal n) = false
is_free v (Truth b) = false
is_free v (Variable w) = var_eq v w
is_free v (Add x y) = is_free v x || is_free v y
is_free v (Subtract x y) = is_free v x || is_free v y
is_free v (Multiply x y) = is_free v x || is_free v y
is_free v (Divide x y) = is_free v x || is_free v y
is_free v (Remainder x y) = is_free v x || is_free v y
is_free v (ByteAnd x y) = is_free v x || is_free v y
is_free v (ByteOr x y) = is_free v x || is_free v y
is_free v (ByteXor x y) = is_free v x || is_free v y
is_free v (Parity x) = is_free v x
is_free v (Bit k x) = is_free v x
is_free v (Psw s z ac p cy) = is_free v s || is_free v z || is_free v ac || is_free v p || is_free v cy
is_free v (If p x y) = is_free v p || is_free v x || is_free v y
is_free v (Element m x) = is_free v m || is_free v x
is_free v (Update m x y) = is_free v m || is_free v x || is_free v y
is_free v (Total m x y) = is_free v m || is_free v x || is_free v y
is_free v (Equal x y) = is_free v x || is_free v y
is_free v (Less x y) = is_free v x || is_free v y
is_free v (LessOrEqual x y) = is_free v x || is_free v y
is_free v (Not p) = is_free v p
is_free v (And p q) = is_free v p || is_free v q
is_free v (Or p q) = is_free v p || is_free v q
is_free v (Implies p q) = is_free v p || is_free v q
is_free v (Iff p q) = is_free v p || is_free v q
is_free v (ForAll k x y p) = is_free v x || is_free v y || not (var_eq v (var.Bound k)) && is_free v p
is_free v (ForSome k x y p) = is_free v x || is_free v y || not (var_eq v (var.Bound k)) && is_free v p

-- no bound variable stands outside its quantifier
abbrev pub IsClosed : Tree → Type 0
IsClosed t = (k : ℕ) → is_free (var.Bound k) t ≡ false

-- the tree with another tree in each free place of a variable
abbrev pub replaced : Var → Tree → Tree → Tree
replaced name by (Literal n) = Literal n
replaced name by (Truth b) = Truth b
replaced name by (Variable v) = if var_eq v name then by else Variable v
replaced name by (Add x y) = Add (replaced name by x) (replaced name by y)
replaced name by (Subtract x y) = Subtract (replaced name by x) (replaced name by y)
replaced name by (Multiply x y) = Multiply (replaced name by x) (replaced name by y)
replaced name by (Divide x y) = Divide (replaced name by x) (replaced name by y)
replaced name by (Remainder x y) = Remainder (replaced name by x) (replaced name by y)
replaced name by (ByteAnd x y) = ByteAnd (replaced name by x) (replaced name by y)
replaced name by (ByteOr x y) = ByteOr (replaced name by x) (replaced name by y)
replaced name by (ByteXor x y) = ByteXor (replaced name by x) (replaced name by y)
replaced name by (Parity x) = Parity (replaced name by x)
replaced name by (Bit k x) = Bit k (replaced name by x)
replaced name by (Psw s z ac p cy) = Psw (replaced name by s) (replaced name by z) (replaced name by ac) (replaced name by p) (replaced name by cy)
replaced name by (If p x y) = If (replaced name by p) (replaced name by x) (replaced name by y)
replaced name by (Element m x) = Element (replaced name by m) (replaced name by x)
replaced name by (Update m x y) = Update (replaced name by m) (replaced name by x) (replaced name by y)
replaced name by (Total m x y) = Total (replaced name by m) (replaced name by x) (replaced name by y)
replaced name by (Equal x y) = Equal (replaced name by x) (replaced name by y)
replaced name by (Less x y) = Less (replaced name by x) (replaced name by y)
replaced name by (LessOrEqual x y) = LessOrEqual (replaced name by x) (replaced name by y)
replaced name by (Not p) = Not (replaced name by p)
replaced name by (And p q) = And (replaced name by p) (replaced name by q)
replaced name by (Or p q) = Or (replaced name by p) (replaced name by q)
replaced name by (Implies p q) = Implies (replaced name by p) (replaced name by q)
replaced name by (Iff p q) = Iff (replaced name by p) (replaced name by q)
replaced name by (ForAll k x y p) =
    ForAll k (replaced name by x) (replaced name by y) (if var_eq name (var.Bound k) then p else replaced name by p)
replaced name by (ForSome k x y p) =
    ForSome k (replaced name by x) (replaced name by y) (if var_eq name (var.Bound k) then p else replaced name by p)
