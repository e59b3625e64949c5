-- The ends of an interval are within 64 bits.
use Rattle.std.proofs.Common.{◌≡◌, ℤ, pos, Bool, true, false, Option, Some, None, refl, subst, cond}
use Rattle.std.specs.Prelude.{⊤, IsTrue, ◌&&◌, ◌+ℤ◌, ◌-ℤ◌, ◌*ℤ◌, if◌then◌else◌, int_lt}
use Rattle.sp_base.specs.Integers.{quotient}
use Rattle.sp_base.specs.declared.location.Loc.{Loc}
use Rattle.sp_base.specs.declared.location.Loc.TheVariants as loc
use Rattle.sp_term.specs.declared.interval.Interval.{Interval}
use Rattle.sp_term.specs.declared.var.Var.{Var}
use Rattle.sp_term.specs.declared.var.Var.TheVariants as var
use Rattle.sp_term.specs.Tree.{Tree, Literal, Truth, Variable, Add, Subtract, Multiply, Divide, Remainder, ByteAnd, ByteOr, ByteXor, Parity, Bit, Psw, If, Element, Update, Total, Equal, Less, LessOrEqual, Not, And, Or, Implies, Iff, ForAll, ForSome}
use Rattle.sp_term.specs.Admissible.{greatest_at}
use Rattle.sp_term.specs.Intervals.{fits, literal, is_memory_variable, from_to, if_within, up_to, of_variable, of_sum, of_difference, of_multiple, of_quotient, of_remainder, hull, of_total, interval}

abbrev pub AreWithin : Option Interval → Type 0
AreWithin (Some i) = IsTrue (fits i.low) × IsTrue (fits i.high)
AreWithin None = ⊤

tested : (low high : ℤ) → AreWithin (if_within low high)
tested low high = by (fits low) (fits high) refl refl
  where
    by : (a b : Bool) → fits low ≡ a → fits high ≡ b → AreWithin (if a && b then from_to low high else None)
    by true true p q = (p, q)
    by true false p q = tt
    by false b p q = tt

if_above : (b : Bool) (o : Option Interval) → AreWithin o → AreWithin (if b then o else None)
if_above true o h = h
if_above false o h = tt

one_of : (b : Bool) (x y : ℤ) → IsTrue (fits x) → IsTrue (fits y) → IsTrue (fits (cond b x y))
one_of true x y p q = p
one_of false x y p q = q

location : (x : Loc) → AreWithin (up_to (Some (greatest_at x)))
location loc.A = (refl, refl)
location loc.B = (refl, refl)
location loc.C = (refl, refl)
location loc.D = (refl, refl)
location loc.E = (refl, refl)
location loc.H = (refl, refl)
location loc.L = (refl, refl)
location loc.S = (refl, refl)
location loc.Z = (refl, refl)
location loc.Ac = (refl, refl)
location loc.P = (refl, refl)
location loc.Cy = (refl, refl)

variable : (v : Var) → AreWithin (of_variable v)
variable (var.Entry x) = location x
variable (var.Now x) = location x
variable (var.After x j) = location x
variable var.MemEntry = (refl, refl)
variable var.Mem = (refl, refl)
variable (var.MemAfter j) = (refl, refl)
variable (var.In j) = (refl, refl)
variable (var.SlotHigh j) = (refl, refl)
variable (var.SlotLow j) = (refl, refl)
variable (var.Any j) = tt
variable (var.Bound j) = tt

sum : (x y : Option Interval) → AreWithin (of_sum x y)
sum (Some i) (Some j) = tested (i.low +ℤ j.low) (i.high +ℤ j.high)
sum (Some i) None = tt
sum None y = tt

difference : (x y : Option Interval) → AreWithin (of_difference x y)
difference (Some i) (Some j) = tested (i.low -ℤ j.high) (i.high -ℤ j.low)
difference (Some i) None = tt
difference None y = tt

multiple : (c : Option ℤ) (x : Option Interval) → AreWithin (of_multiple c x)
multiple (Some c) (Some i) = by (int_lt c (pos 0))
  where
    by : (b : Bool) → AreWithin (if b then if_within (c *ℤ i.high) (c *ℤ i.low) else if_within (c *ℤ i.low) (c *ℤ i.high))
    by true = tested (c *ℤ i.high) (c *ℤ i.low)
    by false = tested (c *ℤ i.low) (c *ℤ i.high)
multiple (Some c) None = tt
multiple None x = tt

quotient_of : (x : Option Interval) (c : Option ℤ) → AreWithin (of_quotient x c)
quotient_of (Some i) (Some c) = if_above (int_lt (pos 0) c) _ (tested (quotient i.low c) (quotient i.high c))
quotient_of (Some i) None = tt
quotient_of None c = tt

remainder_of : (c : Option ℤ) → AreWithin (of_remainder c)
remainder_of (Some c) = if_above (int_lt (pos 0) c) _ (tested (pos 0) (c -ℤ pos 1))
remainder_of None = tt

hull_of : (x y : Option Interval) → AreWithin x → AreWithin y → AreWithin (hull x y)
hull_of (Some i) (Some j) p q = (one_of (int_lt j.low i.low) j.low i.low q.0 p.0, one_of (int_lt j.high i.high) i.high j.high p.1 q.1)
hull_of (Some i) None p q = tt
hull_of None y p q = tt

total : (b : Bool) → AreWithin (of_total b)
total true = (refl, refl)
total false = tt

pub interval_within : (t : Tree) → AreWithin (interval t)
interval_within (Literal n) = tested n n
interval_within (Truth b) = tt
interval_within (Variable v) = variable v
interval_within (Add x y) = sum (interval x) (interval y)
interval_within (Subtract x y) = difference (interval x) (interval y)
interval_within (Multiply x y) = multiple (literal x) (interval y)
interval_within (Divide x y) = quotient_of (interval x) (literal y)
interval_within (Remainder x y) = remainder_of (literal y)
interval_within (ByteAnd x y) = (refl, refl)
interval_within (ByteOr x y) = (refl, refl)
interval_within (ByteXor x y) = (refl, refl)
interval_within (Parity x) = (refl, refl)
interval_within (Bit k x) = (refl, refl)
interval_within (Psw s z ac p cy) = (refl, refl)
interval_within (If p x y) = hull_of (interval x) (interval y) (interval_within x) (interval_within y)
interval_within (Element m x) = interval_within m
interval_within (Update m x y) = hull_of (interval m) (interval y) (interval_within m) (interval_within y)
interval_within (Total m x y) = total (is_memory_variable m)
interval_within (Equal x y) = tt
interval_within (Less x y) = tt
interval_within (LessOrEqual x y) = tt
interval_within (Not p) = tt
interval_within (And p q) = tt
interval_within (Or p q) = tt
interval_within (Implies p q) = tt
interval_within (Iff p q) = tt
interval_within (ForAll k x y p) = tt
interval_within (ForSome k x y p) = tt

pub ends_within : (t : Tree) (i : Interval) → interval t ≡ Some i → IsTrue (fits i.low) × IsTrue (fits i.high)
ends_within t i h = subst AreWithin h (interval_within t)
