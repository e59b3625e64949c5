-- The numbers between which the value of a term lies, where its form alone tells them (this project's own).
use Rattle.std.specs.Prelude.{ℕ, ◌^◌, ℤ, pos, negsuc, ◌+ℤ◌, ◌-ℤ◌, ◌*ℤ◌, Bool, true, false, ◌&&◌, nat_lt, int_lt, if◌then◌else◌, Option, Some, None}
use Rattle.std.specs.Int.{int_min, int_max}
use Rattle.sp_base.specs.Integers.{quotient}
use Rattle.sp_term.specs.declared.interval.Interval.{Interval}
use Rattle.sp_term.specs.declared.var.Var.{Var}
use Rattle.sp_term.specs.declared.var.Var.TheVariants as var
use Rattle.sp_term.specs.Tree.{Tree, Literal, Truth, Variable, Add, Subtract, Multiply, Divide, Remainder, ByteAnd, ByteOr, ByteXor, Parity, Bit, Psw, If, Element, Update, Total, Equal, Less, LessOrEqual, Not, And, Or, Implies, Iff, ForAll, ForSome}
use Rattle.sp_term.specs.Admissible.{greatest}

-- within 64 bits
abbrev pub fits : ℤ → Bool
fits (pos n) = nat_lt n (2 ^ 63)
fits (negsuc n) = nat_lt n (2 ^ 63)

-- the number that a literal is
abbrev pub literal : Tree → Option ℤ
literal (Literal n) = Some n
literal _ = None

-- `mem~`, `mem` and `mem_j`
abbrev pub is_memory : Var → Bool
is_memory var.MemEntry = true
is_memory var.Mem = true
is_memory (var.MemAfter j) = true
is_memory _ = false

abbrev pub is_memory_variable : Tree → Bool
is_memory_variable (Variable v) = is_memory v
is_memory_variable _ = false

abbrev pub from_to : ℤ → ℤ → Option Interval
from_to low high = Some (record { low = low; high = high })

-- none where an end leaves 64 bits
abbrev pub if_within : ℤ → ℤ → Option Interval
if_within low high = if fits low && fits high then from_to low high else None

abbrev pub up_to : Option ℕ → Option Interval
up_to (Some most) = from_to (pos 0) (pos most)
up_to None = None

-- that of a memory is that of its cells
abbrev pub of_variable : Var → Option Interval
of_variable v = if is_memory v then from_to (pos 0) (pos 255) else up_to (greatest v)

abbrev pub of_sum : Option Interval → Option Interval → Option Interval
of_sum (Some i) (Some j) = if_within (i.low +ℤ j.low) (i.high +ℤ j.high)
of_sum _ _ = None

abbrev pub of_difference : Option Interval → Option Interval → Option Interval
of_difference (Some i) (Some j) = if_within (i.low -ℤ j.high) (i.high -ℤ j.low)
of_difference _ _ = None

-- a literal times a term; a negative one exchanges the ends
abbrev pub of_multiple : Option ℤ → Option Interval → Option Interval
of_multiple (Some c) (Some i) = if int_lt c (pos 0) then if_within (c *ℤ i.high) (c *ℤ i.low) else if_within (c *ℤ i.low) (c *ℤ i.high)
of_multiple _ _ = None

-- a term divided by a literal above 0
abbrev pub of_quotient : Option Interval → Option ℤ → Option Interval
of_quotient (Some i) (Some c) = if int_lt (pos 0) c then if_within (quotient i.low c) (quotient i.high c) else None
of_quotient _ _ = None

-- what a division by a literal above 0 leaves over
abbrev pub of_remainder : Option ℤ → Option Interval
of_remainder (Some c) = if int_lt (pos 0) c then if_within (pos 0) (c -ℤ pos 1) else None
of_remainder None = None

-- the least one in which two intervals lie
abbrev pub hull : Option Interval → Option Interval → Option Interval
hull (Some i) (Some j) = from_to (int_min i.low j.low) (int_max i.high j.high)
hull _ _ = None

-- the sum of up to 65,536 bytes
abbrev pub of_total : Bool → Option Interval
of_total true = from_to (pos 0) (pos 16_711_680)
of_total false = None

-- Where a form isn't named, or where a part that it uses has no interval, it has none. A memory has that of its cells.
abbrev pub interval : Tree → Option Interval
interval (Literal n) = if_within n n
interval (Truth b) = None
interval (Variable v) = of_variable v
interval (Add x y) = of_sum (interval x) (interval y)
interval (Subtract x y) = of_difference (interval x) (interval y)
interval (Multiply x y) = of_multiple (literal x) (interval y)
interval (Divide x y) = of_quotient (interval x) (literal y)
interval (Remainder x y) = of_remainder (literal y)
interval (ByteAnd x y) = from_to (pos 0) (pos 255)
interval (ByteOr x y) = from_to (pos 0) (pos 255)
interval (ByteXor x y) = from_to (pos 0) (pos 255)
interval (Parity x) = from_to (pos 0) (pos 1)
interval (Bit k x) = from_to (pos 0) (pos 1)
interval (Psw s z ac p cy) = from_to (pos 2) (pos 215)
interval (If p x y) = hull (interval x) (interval y)
interval (Element m x) = interval m
interval (Update m x y) = hull (interval m) (interval y)
interval (Total m x y) = of_total (is_memory_variable m)
interval (Equal x y) = None
interval (Less x y) = None
interval (LessOrEqual x y) = None
interval (Not p) = None
interval (And p q) = None
interval (Or p q) = None
interval (Implies p q) = None
interval (Iff p q) = None
interval (ForAll k x y p) = None
interval (ForSome k x y p) = None
