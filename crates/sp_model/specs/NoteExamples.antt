-- What annotations say, by example: each case with a twin that differs in one thing (this project's own).
use Rattle.std.specs.Prelude.{◌≡◌, ℕ, ◌+◌, ◌*◌, ◌%◌, ◌<◌, ◌≤◌, ℤ, pos, negsuc, ◌+ℤ◌, ◌<ℤ◌, ◌≤ℤ◌, Bool, true, false, List, [], ◌∷◌, length, slice_index, codes}
use Rattle.sp_base.specs.declared.location.Loc.TheVariants as loc
use Rattle.sp_isa.specs.Core.{Core, cell}
use Rattle.sp_model.specs.Note.{Moment, Now, AtEntry, BC, DE, HL, Add, Subtract, Multiply, Divide, Modulo, BitAnd, BitOr, BitXor, Quantity, Literal, Location, Pair, Cell, StackWord, Total, Negative, Parity, Operate, Bound, Equal, Unequal, Less, LessOrEqual, Greater, GreaterOrEqual, Connective, And, Or, Implies, Iff, ForAll, ForSome, Note, Constant, Compare, Not, Connect, Quantify, Frame, shown, stack_address, value, HoldsWith, IsClosed}

-- a quantity is this number, whatever the frame and the machines
abbrev pub Is : Quantity → ℤ → Type 0
Is x n = (f : Frame) (entry now : Core) → value f [] x entry now ≡ n

-- a note is true, or isn't, whatever the frame and the machines
abbrev pub IsValid : Note → Type 0
IsValid p = (f : Frame) (entry now : Core) → HoldsWith f [] p entry now

abbrev pub IsNever : Note → Type 0
IsNever p = (f : Frame) (entry now : Core) → ¬ HoldsWith f [] p entry now

-- -n
abbrev pub minus : ℕ → Quantity
minus n = Negative (Literal n)

-- the bound names I and J
abbrev pub I : Quantity
I = Bound (codes "I")

abbrev pub J : Quantity
J = Bound (codes "J")

abbrev pub for_all : ℕ → ℕ → Note → Note
for_all low high p = Quantify ForAll (codes "I") (Literal low) (Literal high) p

abbrev pub for_some : ℕ → ℕ → Note → Note
for_some low high p = Quantify ForSome (codes "I") (Literal low) (Literal high) p

abbrev pub equal : Quantity → Quantity → Note
equal x y = Compare Equal x y

-- sums, differences and products go below 0
pub record HasWholeNumbers : Type 0 where
  pub sum : Is (Operate Add (Literal 2) (minus 5)) (negsuc 2)
  pub difference : Is (Operate Subtract (Literal 2) (Literal 5)) (negsuc 2)
  pub product : Is (Operate Multiply (Literal 2) (minus 5)) (negsuc 9)
  pub minus_minus : Is (Negative (minus 5)) (pos 5)
  pub large : Is (Operate Multiply (Literal 65536) (Literal 65536)) (pos 4294967296)

-- division rounds down, whatever the signs, and is 0 by 0
pub record DividesDown : Type 0 where
  pub both : Is (Operate Divide (Literal 7) (Literal 2)) (pos 3)
  pub left : Is (Operate Divide (minus 7) (Literal 2)) (negsuc 3)
  pub right : Is (Operate Divide (Literal 7) (minus 2)) (negsuc 3)
  pub neither : Is (Operate Divide (minus 7) (minus 2)) (pos 3)
  pub by_zero : Is (Operate Divide (Literal 7) (Literal 0)) (pos 0)
  pub rest_both : Is (Operate Modulo (Literal 7) (Literal 2)) (pos 1)
  pub rest_left : Is (Operate Modulo (minus 7) (Literal 2)) (pos 1)
  pub rest_right : Is (Operate Modulo (Literal 7) (minus 2)) (negsuc 0)
  pub rest_neither : Is (Operate Modulo (minus 7) (minus 2)) (negsuc 0)
  pub rest_by_zero : Is (Operate Modulo (Literal 7) (Literal 0)) (pos 0)

-- bits are those of numbers modulo 256: 300 is 44 and -1 is 255
pub record HasBits : Type 0 where
  pub conjunction : Is (Operate BitAnd (Literal 300) (Literal 15)) (pos 12)
  pub conjunction_below : Is (Operate BitAnd (minus 1) (Literal 44)) (pos 44)
  pub disjunction : Is (Operate BitOr (Literal 300) (Literal 3)) (pos 47)
  pub exclusive : Is (Operate BitXor (Literal 300) (Literal 12)) (pos 32)
  pub even : Is (Parity (Literal 3)) (pos 1)
  pub odd : Is (Parity (Literal 2)) (pos 0)
  pub none : Is (Parity (Literal 256)) (pos 1)
  pub below : Is (Parity (minus 1)) (pos 1)

-- a place has its own register, flag or pair, now or at entry
pub record ReadsPlaces : Type 0 where
  pub register : (f : Frame) (entry now : Core) → value f [] (Location Now loc.B) entry now ≡ pos now.b
  pub register_before : (f : Frame) (entry now : Core) → value f [] (Location AtEntry loc.B) entry now ≡ pos entry.b
  pub flag : (f : Frame) (entry now : Core) → value f [] (Location Now loc.Cy) entry now ≡ pos now.cy
  pub bc : (f : Frame) (entry now : Core) → value f [] (Pair Now BC) entry now ≡ pos (256 * now.b + now.c)
  pub de : (f : Frame) (entry now : Core) → value f [] (Pair Now DE) entry now ≡ pos (256 * now.d + now.e)
  pub hl : (f : Frame) (entry now : Core) → value f [] (Pair Now HL) entry now ≡ pos (256 * now.h + now.l)
  pub hl_before : (f : Frame) (entry now : Core) → value f [] (Pair AtEntry HL) entry now ≡ pos (256 * entry.h + entry.l)

-- memory, now or at entry: the byte at an address outside the stack region, and else 0
pub record ShowsMemory : Type 0 where
  pub below : (f : Frame) (cells : List ℕ) (a : ℕ) → a < f.first → shown f cells (pos a) ≡ pos (slice_index cells a)
  pub above : (f : Frame) (cells : List ℕ) (a : ℕ) → f.last < a → shown f cells (pos a) ≡ pos (slice_index cells a)
  pub stack : (f : Frame) (cells : List ℕ) (a : ℕ) → f.first ≤ a → a ≤ f.last → shown f cells (pos a) ≡ pos 0
  pub negative : (f : Frame) (cells : List ℕ) (z : ℤ) → z <ℤ pos 0 → shown f cells z ≡ pos 0
  pub past : (f : Frame) (cells : List ℕ) (z : ℤ) → length cells ≡ 65536 → pos 65536 ≤ℤ z → shown f cells z ≡ pos 0
  pub present : (f : Frame) (entry now : Core) (n : ℕ) → value f [] (Cell Now (Literal n)) entry now ≡ shown f now.cells (pos n)
  pub before : (f : Frame) (entry now : Core) (n : ℕ) → value f [] (Cell AtEntry (Literal n)) entry now ≡ shown f entry.cells (pos n)

-- the k-th word below the base has its low byte 2k below it, at addresses modulo 65,536: with the base 3, STK1 has 1 and 2,
-- STK2 has 65,535 and 0
pub record ReadsStack : Type 0 where
  pub address : (f : Frame) (k : ℕ) → k ≤ 32767 → (stack_address f k + 2 * k) % 65536 ≡ f.base % 65536
  pub word : (f : Frame) (entry now : Core) (k : ℕ) → value f [] (StackWord k) entry now ≡ pos (cell (stack_address f k) now + 256 * cell (stack_address f k + 1) now)
  pub first : (f : Frame) (entry now : Core) → f.base ≡ 3 → value f [] (StackWord 1) entry now ≡ pos (slice_index now.cells 1 + 256 * slice_index now.cells 2)
  pub round : (f : Frame) (entry now : Core) → f.base ≡ 3 → value f [] (StackWord 2) entry now ≡ pos (slice_index now.cells 65535 + 256 * slice_index now.cells 0)

-- the sum of the cells from one number through another, as memory is shown
abbrev pub cells_from : Frame → Moment → ℤ → ℤ → Core → Core → ℤ
cells_from f m low high entry now = value f ((codes "I", low) ∷ (codes "J", high) ∷ []) (Total m I J) entry now

-- a sum of cells: none, one, and two parts of any range
pub record SumsCells : Type 0 where
  pub none : (f : Frame) (m : Moment) (entry now : Core) (low high : ℤ) → high <ℤ low → cells_from f m low high entry now ≡ pos 0
  pub one : (f : Frame) (entry now : Core) (z : ℤ) → cells_from f Now z z entry now ≡ shown f now.cells z
  pub one_before : (f : Frame) (entry now : Core) (z : ℤ) → cells_from f AtEntry z z entry now ≡ shown f entry.cells z
  pub parts : (f : Frame) (m : Moment) (entry now : Core) (low mid high : ℤ) → low ≤ℤ (mid +ℤ pos 1) → mid ≤ℤ high → cells_from f m low high entry now ≡ cells_from f m low mid entry now +ℤ cells_from f m (mid +ℤ pos 1) high entry now

-- one number is below another, equal to it, or above it
pub record Orders : Type 0 where
  pub equal : IsValid (Compare Equal (Literal 2) (Literal 2)) × IsNever (Compare Equal (Literal 1) (Literal 2)) × IsNever (Compare Equal (Literal 2) (Literal 1))
  pub unequal : IsNever (Compare Unequal (Literal 2) (Literal 2)) × IsValid (Compare Unequal (Literal 1) (Literal 2)) × IsValid (Compare Unequal (Literal 2) (Literal 1))
  pub less : IsNever (Compare Less (Literal 2) (Literal 2)) × IsValid (Compare Less (Literal 1) (Literal 2)) × IsNever (Compare Less (Literal 2) (Literal 1))
  pub at_most : IsValid (Compare LessOrEqual (Literal 2) (Literal 2)) × IsValid (Compare LessOrEqual (Literal 1) (Literal 2)) × IsNever (Compare LessOrEqual (Literal 2) (Literal 1))
  pub greater : IsNever (Compare Greater (Literal 2) (Literal 2)) × IsNever (Compare Greater (Literal 1) (Literal 2)) × IsValid (Compare Greater (Literal 2) (Literal 1))
  pub at_least : IsValid (Compare GreaterOrEqual (Literal 2) (Literal 2)) × IsNever (Compare GreaterOrEqual (Literal 1) (Literal 2)) × IsValid (Compare GreaterOrEqual (Literal 2) (Literal 1))
  pub below_zero : IsValid (Compare Less (minus 2) (minus 1)) × IsNever (Compare Less (minus 1) (minus 2))

-- a connective between true and false: for both true, the left alone, the right alone, and none
abbrev pub between : Connective → Bool → Bool → Note
between c p q = Connect c (Constant p) (Constant q)

pub record Connected : Type 0 where
  pub constants : IsValid (Constant true) × IsNever (Constant false)
  pub negation : IsNever (Not (Constant true)) × IsValid (Not (Constant false))
  pub conjunction : IsValid (between And true true) × IsNever (between And true false) × IsNever (between And false true) × IsNever (between And false false)
  pub disjunction : IsValid (between Or true true) × IsValid (between Or true false) × IsValid (between Or false true) × IsNever (between Or false false)
  pub implication : IsValid (between Implies true true) × IsNever (between Implies true false) × IsValid (between Implies false true) × IsValid (between Implies false false)
  pub equivalence : IsValid (between Iff true true) × IsNever (between Iff true false) × IsNever (between Iff false true) × IsValid (between Iff false false)

-- a quantifier speaks of each number from its first end through its last, and of none where the last is below the first
pub record Quantified : Type 0 where
  pub each : IsValid (for_all 3 4 (Compare LessOrEqual I (Literal 4)))
  pub not_last : IsNever (for_all 3 4 (Compare Less I (Literal 4)))
  pub not_first : IsNever (for_all 3 4 (Compare Greater I (Literal 3)))
  pub no_more : IsValid (for_all 3 4 (Connect Or (equal I (Literal 3)) (equal I (Literal 4))))
  pub some_first : IsValid (for_some 3 4 (equal I (Literal 3)))
  pub some_last : IsValid (for_some 3 4 (equal I (Literal 4)))
  pub some_past : IsNever (for_some 3 4 (equal I (Literal 5)))
  pub all_of_none : IsValid (for_all 4 3 (Constant false))
  pub some_of_none : IsNever (for_some 4 3 (Constant true))

-- a bound name is that of its innermost quantifier, and a quantifier's ends are outside it
pub record BindsInnermost : Type 0 where
  pub inner : IsValid (for_all 1 1 (for_all 2 2 (equal I (Literal 2))))
  pub other : IsValid (for_all 1 1 (Quantify ForAll (codes "J") (Literal 2) (Literal 2) (equal I (Literal 1))))
  pub ends : IsValid (for_all 1 1 (Quantify ForAll (codes "I") (Operate Add I (Literal 1)) (Operate Add I (Literal 1)) (equal I (Literal 2))))
  pub closed : IsClosed (for_all 1 1 (equal I (Literal 1)))
  pub not_closed : ¬ IsClosed (for_all 1 1 (equal J (Literal 1)))
  pub not_in_ends : ¬ IsClosed (Quantify ForAll (codes "I") (Literal 1) I (Constant true))
  pub not_beside : ¬ IsClosed (Connect And (for_all 1 1 (equal I (Literal 1))) (equal I (Literal 1)))
