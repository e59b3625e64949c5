-- The value of a term in an environment, over whole numbers, truth values and maps (this project's own).
use Rattle.std.specs.Prelude.{◌≡◌, ℕ, ◌+◌, ◌*◌, ◌^◌, ℤ, pos, ◌+ℤ◌, ◌-ℤ◌, ◌*ℤ◌, Bool, true, false, not, ◌&&◌, ◌||◌, int_lt, int_le, unsigned_abs, if◌then◌else◌}
use Rattle.std.specs.Ordering.{int_eq}
use Rattle.std.specs.Int.{int_rem_euclid}
use Rattle.sp_base.specs.Integers.{quotient, remainder, byte_and, byte_or, byte_xor, parity, sum_between, all_between, some_between}
use Rattle.sp_term.specs.declared.var.Var.{Var}
use Rattle.sp_term.specs.declared.var.Var.TheVariants as var
use Rattle.sp_term.specs.Tree.{Tree, Literal, Truth, Variable, Add, Subtract, Multiply, Divide, Remainder, ByteAnd, ByteOr, ByteXor, Parity, Bit, Psw, If, Element, Update, Total, Equal, Less, LessOrEqual, Not, And, Or, Implies, Iff, ForAll, ForSome}
use Rattle.sp_term.specs.Free.{var_eq}
use Rattle.sp_term.specs.Sorts.{Sort, Int, Formula, Memory, sort_of}

-- the value of each variable: a whole number, or a map from whole numbers to whole numbers for a memory
pub record Env : Type 0 where
  pub int : Var → ℤ
  pub map : Var → ℤ → ℤ

-- the value of a tree: a term of one sort has 0, the map of zeros, and false as its values of the others
pub record Value : Type 0 where
  pub int : ℤ
  pub map : ℤ → ℤ
  pub truth : Bool

abbrev pub whole : ℤ → Value
whole n = record { int = n; map = λ z. pos 0; truth = false }

abbrev pub cells : (ℤ → ℤ) → Value
cells m = record { int = pos 0; map = m; truth = false }

abbrev pub fact : Bool → Value
fact b = record { int = pos 0; map = λ z. pos 0; truth = b }

abbrev pub variable_value : Sort → Env → Var → Value
variable_value Int e v = whole (e.int v)
variable_value Formula e v = fact false
variable_value Memory e v = cells (e.map v)

-- a map with another number in one place
abbrev pub updated : (ℤ → ℤ) → ℤ → ℤ → ℤ → ℤ
updated m x n z = if int_eq z x then n else m z

-- a number modulo 2
abbrev pub low_bit : ℤ → ℕ
low_bit z = unsigned_abs (int_rem_euclid z (pos 2))

-- a bit of a number, the lowest being bit 0
abbrev pub bit : ℕ → ℤ → ℤ
bit k z = pos (low_bit (quotient z (pos (2 ^ k))))

-- the flags as a byte: S Z 0 AC 0 P 1 CY, each modulo 2 (8080 manual, "Push data onto stack")
abbrev pub psw : ℤ → ℤ → ℤ → ℤ → ℤ → ℤ
psw s z ac p cy = pos (128 * low_bit s + 64 * low_bit z + 16 * low_bit ac + 4 * low_bit p + 2 + low_bit cy)

-- the environment with another number for a bound variable
abbrev pub bind : ℕ → ℤ → Env → Env
bind k z e = record { int = λ v. if var_eq v (var.Bound k) then z else e.int v; map = e.map }

abbrev pub value : Env → Tree → Value
value e (Literal n) = whole n
value e (Truth b) = fact b
value e (Variable v) = variable_value (sort_of v) e v
value e (Add x y) = whole ((value e x).int +ℤ (value e y).int)
value e (Subtract x y) = whole ((value e x).int -ℤ (value e y).int)
value e (Multiply x y) = whole ((value e x).int *ℤ (value e y).int)
value e (Divide x y) = whole (quotient (value e x).int (value e y).int)
value e (Remainder x y) = whole (remainder (value e x).int (value e y).int)
value e (ByteAnd x y) = whole (byte_and (value e x).int (value e y).int)
value e (ByteOr x y) = whole (byte_or (value e x).int (value e y).int)
value e (ByteXor x y) = whole (byte_xor (value e x).int (value e y).int)
value e (Parity x) = whole (parity (value e x).int)
value e (Bit k x) = whole (bit k (value e x).int)
value e (Psw s z ac p cy) = whole (psw (value e s).int (value e z).int (value e ac).int (value e p).int (value e cy).int)
value e (If p x y) = whole (if (value e p).truth then (value e x).int else (value e y).int)
value e (Element m x) = whole ((value e m).map (value e x).int)
value e (Update m x y) = cells (updated (value e m).map (value e x).int (value e y).int)
value e (Total m x y) = whole (sum_between (value e m).map (value e x).int (value e y).int)
value e (Equal x y) = fact (int_eq (value e x).int (value e y).int)
value e (Less x y) = fact (int_lt (value e x).int (value e y).int)
value e (LessOrEqual x y) = fact (int_le (value e x).int (value e y).int)
value e (Not p) = fact (not (value e p).truth)
value e (And p q) = fact ((value e p).truth && (value e q).truth)
value e (Or p q) = fact ((value e p).truth || (value e q).truth)
value e (Implies p q) = fact (not (value e p).truth || (value e q).truth)
value e (Iff p q) = fact (if (value e p).truth then (value e q).truth else not (value e q).truth)
value e (ForAll k x y p) = fact (all_between (λ z. (value (bind k z e) p).truth) (value e x).int (value e y).int)
value e (ForSome k x y p) = fact (some_between (λ z. (value (bind k z e) p).truth) (value e x).int (value e y).int)

abbrev pub int_of : Env → Tree → ℤ
int_of e t = (value e t).int

abbrev pub map_of : Env → Tree → ℤ → ℤ
map_of e t = (value e t).map

-- a formula is true in an environment
abbrev pub IsTrueIn : Env → Tree → Type 0
IsTrueIn e p = (value e p).truth ≡ true

-- the environment in which a variable has the value of a term
abbrev pub assigned : Var → Value → Env → Env
assigned v x e = record { int = λ w. if var_eq w v then x.int else e.int w; map = λ w. if var_eq w v then x.map else e.map w }
