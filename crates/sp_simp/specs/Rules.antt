-- The rules of the simplifier, in the order of their numbers; c, d and e are literals (this project's own). A rule whose
-- new literal would leave 64 bits doesn't match.
use Rattle.std.specs.Prelude.{ℕ, ◌==◌, Bool, true, false, if◌then◌else◌, ◌&&◌, ◌||◌, not, ℤ, pos, neg_ℤ, ◌+ℤ◌, ◌-ℤ◌, ◌*ℤ◌, int_lt, int_le, Option, Some, None, option_map}
use Rattle.std.specs.Ordering.{int_eq}
use Rattle.sp_base.specs.Integers.{quotient, remainder, byte_and, byte_or, byte_xor, parity}
use Rattle.sp_term.specs.Tree.{Tree, Literal, Truth, Variable, Add, Subtract, Multiply, Divide, Remainder, ByteAnd, ByteOr, ByteXor, Parity, Bit, Psw, If, Element, Update, Total, Equal, Less, LessOrEqual, Not, And, Or, Implies, Iff, ForAll, ForSome}
use Rattle.sp_term.specs.Value.{bit, psw}
use Rattle.sp_term.specs.declared.interval.Interval.{Interval}
use Rattle.sp_term.specs.Intervals.{fits, literal, interval}
use Rattle.sp_simp.specs.declared.relation.Relation.{Relation}
use Rattle.sp_simp.specs.declared.relation.Relation.TheVariants as relation
use Rattle.sp_simp.specs.Same.{tree_eq}

-- what a rule writes in the place of a node whose parts are simple
pub data Right : Type 0 where
  -- a part of the left side, a literal, true or false
  Is : Tree → Right
  -- a node over such parts
  Made : Tree → Right
  -- the sum of such a node and a literal
  MadePlus : Tree → ℤ → Right
  -- such a node modulo a literal
  MadeModulo : Tree → ℤ → Right

abbrev pub when : Bool → Right → Option Right
when b r = if b then Some r else None

-- the first of two rules that matches
abbrev pub first : Option Right → Option Right → Option Right
first (Some r) _ = Some r
first None r = r

-- a literal that a rule makes
abbrev pub number : ℤ → Option Right
number n = when (fits n) (Is (Literal n))

-- ---- what a tree has at its root

-- true or false
abbrev pub truth : Tree → Option Bool
truth (Truth b) = Some b
truth _ = None

-- x and c, of `x + c`
abbrev pub offset : Tree → Option (Tree × ℤ)
offset (Add x y) = option_map (λ c. (x, c)) (literal y)
offset _ = None

-- c and x, of `c * x`
abbrev pub multiple : Tree → Option (ℤ × Tree)
multiple (Multiply x y) = option_map (λ c. (c, y)) (literal x)
multiple _ = None

-- x and c, of `x div c`
abbrev pub divided : Tree → Option (Tree × ℤ)
divided (Divide x y) = option_map (λ c. (x, c)) (literal y)
divided _ = None

-- x and c, of `x mod c`
abbrev pub reduced : Tree → Option (Tree × ℤ)
reduced (Remainder x y) = option_map (λ c. (x, c)) (literal y)
reduced _ = None

-- `c * y` and x, of `(c * y) + x`
abbrev pub multiple_sum : Tree → Option ((ℤ × Tree) × Tree)
multiple_sum (Add x y) = option_map (λ m. (m, y)) (multiple x)
multiple_sum _ = None

-- `x mod c` and y, of `(x mod c) + y`
abbrev pub reduced_sum : Tree → Option ((Tree × ℤ) × Tree)
reduced_sum (Add x y) = option_map (λ r. (r, y)) (reduced x)
reduced_sum _ = None

-- ---- sums and differences

-- 1: the value of an operation on literals alone
abbrev pub fold : (ℤ → ℤ) → Option ℤ → Option Right
fold f (Some c) = number (f c)
fold f None = None

abbrev pub fold_two : (ℤ → ℤ → ℤ) → Option ℤ → Option ℤ → Option Right
fold_two f (Some c) (Some d) = number (f c d)
fold_two f _ _ = None

abbrev pub fold_psw : Option ℤ → Option ℤ → Option ℤ → Option ℤ → Option ℤ → Option Right
fold_psw (Some s) (Some z) (Some ac) (Some p) (Some cy) = number (psw s z ac p cy)
fold_psw _ _ _ _ _ = None

-- 2: x - x is 0
abbrev pub same_difference : Bool → Option Right
same_difference same = when same (Is (Literal (pos 0)))

-- 3: c + x is x + c, where x isn't a literal
abbrev pub literal_last : Option ℤ → Tree → Option ℤ → Option Right
literal_last (Some c) x None = Some (Made (Add x (Literal c)))
literal_last _ x _ = None

-- 4: x * c is c * x, where x isn't a literal
abbrev pub factor_first : Tree → Option ℤ → Option ℤ → Option Right
factor_first x None (Some c) = Some (Made (Multiply (Literal c) x))
factor_first x _ _ = None

-- 5: x + 0 is x
abbrev pub plus_zero : Tree → Option ℤ → Option Right
plus_zero x (Some c) = when (int_eq c (pos 0)) (Is x)
plus_zero x None = None

-- 6: x - c is x + (-c)
abbrev pub minus_literal : Tree → Option ℤ → Option Right
minus_literal x (Some c) = when (fits (neg_ℤ c)) (Made (Add x (Literal (neg_ℤ c))))
minus_literal x None = None

-- 7: (x + c) + d is x + (c + d)
abbrev pub join_offsets : Option (Tree × ℤ) → Option ℤ → Option Right
join_offsets (Some p) (Some d) = when (fits (p.1 +ℤ d)) (Made (Add p.0 (Literal (p.1 +ℤ d))))
join_offsets _ _ = None

-- 8: (x + c) + y is (x + y) + c, where y isn't a literal
abbrev pub left_offset_out : Option (Tree × ℤ) → Tree → Option ℤ → Option Right
left_offset_out (Some p) y None = Some (MadePlus (Add p.0 y) p.1)
left_offset_out _ y _ = None

-- 9: x + (y + c) is (x + y) + c
abbrev pub right_offset_out : Tree → Option (Tree × ℤ) → Option Right
right_offset_out x (Some p) = Some (MadePlus (Add x p.0) p.1)
right_offset_out x None = None

-- ---- products

-- 10: 0 * x is 0
abbrev pub zero_times : Option ℤ → Option Right
zero_times (Some c) = when (int_eq c (pos 0)) (Is (Literal (pos 0)))
zero_times None = None

-- 11: 1 * x is x
abbrev pub one_times : Option ℤ → Tree → Option Right
one_times (Some c) x = when (int_eq c (pos 1)) (Is x)
one_times None x = None

-- 12: c * (d * x) is (cd) * x
abbrev pub join_factors : Option ℤ → Option (ℤ × Tree) → Option Right
join_factors (Some c) (Some m) = when (fits (c *ℤ m.0)) (Made (Multiply (Literal (c *ℤ m.0)) m.1))
join_factors _ _ = None

-- 13: c * (x + d) is (c * x) + (cd)
abbrev pub factor_in : Option ℤ → Option (Tree × ℤ) → Option Right
factor_in (Some c) (Some p) = when (fits (c *ℤ p.1)) (MadePlus (Multiply (Literal c) p.0) (c *ℤ p.1))
factor_in _ _ = None

-- ---- quotients and remainders

-- whether `c * (x div d)` and `z mod e` have one divisor above 0 and one x
abbrev pub are_parts : ℤ → Tree × ℤ → Tree × ℤ → Bool
are_parts c q r = int_lt (pos 0) c && int_eq c q.1 && int_eq c r.1 && tree_eq q.0 r.0

abbrev pub whole_of : ℤ → Option (Tree × ℤ) → Option (Tree × ℤ) → Option Right
whole_of c (Some q) (Some r) = when (are_parts c q r) (Is r.0)
whole_of c _ _ = None

-- 14: (c * (x div c)) + (x mod c) is x, where c is above 0
abbrev pub whole_again : Option (ℤ × Tree) → Option (Tree × ℤ) → Option Right
whole_again (Some m) r = whole_of m.0 (divided m.1) r
whole_again None r = None

-- 15: x div 1 is x
abbrev pub over_one : Tree → Option ℤ → Option Right
over_one x (Some c) = when (int_eq c (pos 1)) (Is x)
over_one x None = None

-- 16: x mod 1 is 0
abbrev pub modulo_one : Option ℤ → Option Right
modulo_one (Some c) = when (int_eq c (pos 1)) (Is (Literal (pos 0)))
modulo_one None = None

-- an interval within 0 to c - 1
abbrev pub is_within : Option Interval → ℤ → Bool
is_within (Some i) c = int_le (pos 0) i.low && int_lt i.high c
is_within None c = false

-- 17: x div c is 0, where x is within 0 to c - 1
abbrev pub small_quotient : Option Interval → Option ℤ → Option Right
small_quotient i (Some c) = when (is_within i c) (Is (Literal (pos 0)))
small_quotient i None = None

-- 18: x mod c is x, where x is within 0 to c - 1
abbrev pub small_remainder : Tree → Option Interval → Option ℤ → Option Right
small_remainder x i (Some c) = when (is_within i c) (Is x)
small_remainder x i None = None

-- c and d are above 0, and d divides c
abbrev pub is_divisor : ℤ → ℤ → Bool
is_divisor d c = int_lt (pos 0) c && int_lt (pos 0) d && int_eq (remainder c d) (pos 0)

-- 19: (x mod c) mod d is x mod d, where c and d are above 0 and d divides c
abbrev pub remainder_twice : Option (Tree × ℤ) → Option ℤ → Option Right
remainder_twice (Some r) (Some d) = when (is_divisor d r.1) (Made (Remainder r.0 (Literal d)))
remainder_twice _ _ = None

-- 20: ((x mod c) + y) mod d is (x + y) mod d, in the same case
abbrev pub remainder_in_sum : Option ((Tree × ℤ) × Tree) → Option ℤ → Option Right
remainder_in_sum (Some s) (Some d) = when (is_divisor d s.0.1) (MadeModulo (Add s.0.0 s.1) d)
remainder_in_sum _ _ = None

-- d is above 0, and c isn't within 0 to d - 1
abbrev pub is_beyond : ℤ → ℤ → Bool
is_beyond c d = int_lt (pos 0) d && not (int_le (pos 0) c && int_lt c d)

-- 21: (x + c) mod d is (x + (c mod d)) mod d, where d is above 0 and c isn't within 0 to d - 1
abbrev pub offset_reduced : Option (Tree × ℤ) → Option ℤ → Option Right
offset_reduced (Some p) (Some d) = when (is_beyond p.1 d) (MadeModulo (Add p.0 (Literal (remainder p.1 d))) d)
offset_reduced _ _ = None

-- 22: ((c * y) + x) div c is y, where x is within 0 to c - 1
abbrev pub quotient_of_multiple : Option ((ℤ × Tree) × Tree) → Option ℤ → Option Right
quotient_of_multiple (Some s) (Some c) = when (int_eq s.0.0 c && is_within (interval s.1) c) (Is s.0.1)
quotient_of_multiple _ _ = None

-- 23: ((c * y) + x) mod c is x, where x is within 0 to c - 1
abbrev pub remainder_of_multiple : Option ((ℤ × Tree) × Tree) → Option ℤ → Option Right
remainder_of_multiple (Some s) (Some c) = when (int_eq s.0.0 c && is_within (interval s.1) c) (Is s.1)
remainder_of_multiple _ _ = None

-- ---- bits and bytes

-- an argument within 0 to 1
abbrev pub flag : Tree → Option Right
flag x = when (is_within (interval x) (pos 2)) (Is x)

-- 24: bit(k,psw(s,z,ac,p,cy)) is s, z, ac, p or cy for k = 7, 6, 4, 2 or 0, where that is within 0 to 1; 1 for k = 1; 0 for
-- k = 3 or 5
abbrev pub flag_bit : ℕ → Tree → Option Right
flag_bit k (Psw s z ac p cy) =
    if k == 7 then flag s else if k == 6 then flag z else if k == 4 then flag ac else if k == 2 then flag p else if k == 0 then flag cy else
    if k == 1 then Some (Is (Literal (pos 1))) else when (k == 3 || k == 5) (Is (Literal (pos 0)))
flag_bit k _ = None

abbrev pub low_byte_of : Tree → Right
low_byte_of x = Made (Remainder x (Literal (pos 256)))

-- 25: band(x,x) and bor(x,x) are x mod 256; bxor(x,x) is 0
abbrev pub byte_with_itself : Bool → Tree → Option Right
byte_with_itself same x = when same (low_byte_of x)

abbrev pub byte_xor_itself : Bool → Option Right
byte_xor_itself same = when same (Is (Literal (pos 0)))

abbrev pub is_number : ℤ → Option ℤ → Bool
is_number n (Some c) = int_eq c n
is_number n None = false

-- 26: band with 0 on a side is 0
abbrev pub byte_and_zero : Option ℤ → Option ℤ → Option Right
byte_and_zero c d = when (is_number (pos 0) c || is_number (pos 0) d) (Is (Literal (pos 0)))

-- 26: band with 255 on a side, and bor and bxor with 0 on a side, are the other one modulo 256
abbrev pub byte_with : ℤ → Tree → Option ℤ → Tree → Option ℤ → Option Right
byte_with n x c y d = first (when (is_number n c) (low_byte_of y)) (when (is_number n d) (low_byte_of x))

-- ---- choices and memories

-- 27: if(true,x,y) and if(p,x,x) are x, if(false,x,y) is y
abbrev pub choice : Option Bool → Bool → Tree → Tree → Option Right
choice (Some true) same x y = Some (Is x)
choice (Some false) same x y = when same (Is x)
choice None same x y = when same (Is x)

abbrev pub choice_false : Option Bool → Tree → Option Right
choice_false (Some b) y = when (not b) (Is y)
choice_false None y = None

-- the base and the offset: x and c of `x + c`, 0 and c of c, and else the tree and 0
abbrev pub based : Tree → Option (Tree × ℤ) → Option ℤ → Tree × ℤ
based t (Some p) c = p
based t None (Some c) = (Literal (pos 0), c)
based t None None = (t, pos 0)

abbrev pub base : Tree → Tree × ℤ
base t = based t (offset t) (literal t)

abbrev pub are_disjoint : Option Interval → Option Interval → Bool
are_disjoint (Some i) (Some j) = int_lt i.high j.low || int_lt j.high i.low
are_disjoint _ _ = false

-- the same base and another offset
abbrev pub is_shifted : Tree × ℤ → Tree × ℤ → Bool
is_shifted a b = tree_eq a.0 b.0 && not (int_eq a.1 b.1)

-- two terms whose values differ
abbrev pub are_apart : Tree → Tree → Bool
are_apart x y = is_shifted (base x) (base y) || are_disjoint (interval x) (interval y)

-- 28: element(update(m,[x],v),[x]) is v
-- 29: element(update(m,[x],v),[y]) is element(m,[y]), where x and y have the same base and other offsets, or disjoint intervals
abbrev pub element_of : Tree → Tree → Option Right
element_of (Update m x v) y = first (when (tree_eq x y) (Is v)) (when (are_apart x y) (Made (Element m y)))
element_of _ y = None

-- 30: update(update(m,[x],v),[x],w) is update(m,[x],w)
abbrev pub update_of : Tree → Tree → Tree → Option Right
update_of (Update m x v) y w = when (tree_eq x y) (Made (Update m y w))
update_of _ y w = None

-- ---- comparisons

abbrev pub compared : Relation → Tree → Tree → Tree
compared relation.Equal x y = Equal x y
compared relation.Less x y = Less x y
compared relation.LessOrEqual x y = LessOrEqual x y

-- whether a number is in the relation to itself
abbrev pub is_reflexive : Relation → Bool
is_reflexive relation.Equal = true
is_reflexive relation.Less = false
is_reflexive relation.LessOrEqual = true

-- 31: x = x and x <= x are true, x < x is false
abbrev pub compare_same : Relation → Bool → Option Right
compare_same r same = when same (Is (Truth (is_reflexive r)))

-- true where the first test passes, false where the second one does
abbrev pub verdict : Bool → Bool → Option Right
verdict holds fails = first (when holds (Is (Truth true))) (when fails (Is (Truth false)))

-- 32: a comparison that the two intervals decide
abbrev pub decided : Relation → Interval → Interval → Option Right
decided relation.Equal i j = verdict (int_le i.high j.low && int_le j.high i.low) (int_lt i.high j.low || int_lt j.high i.low)
decided relation.Less i j = verdict (int_lt i.high j.low) (int_le j.high i.low)
decided relation.LessOrEqual i j = verdict (int_le i.high j.low) (int_lt j.high i.low)

abbrev pub compare_intervals : Relation → Option Interval → Option Interval → Option Right
compare_intervals r (Some i) (Some j) = decided r i j
compare_intervals r _ _ = None

-- 33: a comparison of x + c with d is one of x with d - c, on the same sides
abbrev pub compare_left_offset : Relation → Option (Tree × ℤ) → Option ℤ → Option Right
compare_left_offset r (Some p) (Some d) = when (fits (d -ℤ p.1)) (Made (compared r p.0 (Literal (d -ℤ p.1))))
compare_left_offset r _ _ = None

abbrev pub compare_right_offset : Relation → Option ℤ → Option (Tree × ℤ) → Option Right
compare_right_offset r (Some d) (Some p) = when (fits (d -ℤ p.1)) (Made (compared r (Literal (d -ℤ p.1)) p.0))
compare_right_offset r _ _ = None

abbrev pub is_sum : Option (Tree × ℤ) → Bool
is_sum (Some p) = true
is_sum None = false

-- 34: a comparison of terms with the same base is one of their offsets; with equal offsets other than 0, of their bases. One of
-- the two is then a sum x + c, since two literals and two other terms with one base are decided above.
abbrev pub compare_offsets : Relation → Bool → Tree × ℤ → Tree × ℤ → Option Right
compare_offsets r sum a b = when (sum && tree_eq a.0 b.0) (Made (compared r (Literal a.1) (Literal b.1)))

abbrev pub compare_bases : Relation → Bool → Tree × ℤ → Tree × ℤ → Option Right
compare_bases r sum a b = when (sum && int_eq a.1 b.1 && not (int_eq a.1 (pos 0))) (Made (compared r a.0 b.0))

abbrev pub compare_based : Relation → Tree → Tree → Option Right
compare_based r x y =
    first (compare_offsets r (is_sum (offset x) || is_sum (offset y)) (base x) (base y))
    (compare_bases r (is_sum (offset x) || is_sum (offset y)) (base x) (base y))

-- 35: c = x is x = c, where x isn't a literal
abbrev pub equal_turned : Option ℤ → Tree → Option ℤ → Option Right
equal_turned (Some c) x None = Some (Made (Equal x (Literal c)))
equal_turned _ x _ = None

abbrev pub chosen_is : Tree → Option ℤ → Option ℤ → ℤ → Option Right
chosen_is p (Some c) (Some d) e =
    if int_eq c d then None else if int_eq c e then Some (Is p) else if int_eq d e then Some (Made (Not p)) else Some (Is (Truth false))
chosen_is p _ _ e = None

-- 36: if(p,c,d) = e is p, not p or false, where c and d differ and e is c, d or neither
abbrev pub equal_choice : Tree → Option ℤ → Option Right
equal_choice (If p x y) (Some e) = chosen_is p (literal x) (literal y) e
equal_choice _ _ = None

-- ---- formulas

-- 37: not true is false, not false is true, not not p is p, not (x <= y) is y < x, not (x < y) is y <= x
abbrev pub negated : Tree → Option Right
negated (Truth b) = Some (Is (Truth (not b)))
negated (Not p) = Some (Is p)
negated (LessOrEqual x y) = Some (Made (Less y x))
negated (Less x y) = Some (Made (LessOrEqual y x))
negated _ = None

-- a formula beside one that is known
abbrev pub with_known : Bool → Bool → Tree → Option Right
with_known unit b p = Some (Is (if b then (if unit then p else Truth true) else (if unit then Truth false else p)))

-- 38: a side that is true goes from an and, one that is false is all of it, and p and p is p; an or with true and false exchanged
abbrev pub joined : Bool → Tree → Option Bool → Tree → Option Bool → Bool → Option Right
joined unit p (Some b) q d same = with_known unit b q
joined unit p None q (Some b) same = with_known unit b p
joined unit p None q None same = when same (Is p)

-- 39: p -> q is q where p is true, true where p is false, where q is true and where both are the same, and not p where q is false
abbrev pub implied : Tree → Option Bool → Tree → Option Bool → Bool → Option Right
implied p (Some true) q d same = Some (Is q)
implied p (Some false) q d same = Some (Is (Truth true))
implied p None q (Some true) same = Some (Is (Truth true))
implied p None q (Some false) same = Some (Made (Not p))
implied p None q None same = when same (Is (Truth true))

-- 39: p <-> q is the other side where one is true, its negation where one is false, and true where both are the same
abbrev pub equivalent : Tree → Option Bool → Tree → Option Bool → Bool → Option Right
equivalent p (Some true) q d same = Some (Is q)
equivalent p (Some false) q (Some true) same = Some (Is p)
equivalent p (Some false) q _ same = Some (Made (Not q))
equivalent p None q (Some true) same = Some (Is p)
equivalent p None q (Some false) same = Some (Made (Not p))
equivalent p None q None same = when same (Is (Truth true))

-- literal ends c and d, of which c is above d
abbrev pub is_empty : Option ℤ → Option ℤ → Bool
is_empty (Some c) (Some d) = int_lt d c
is_empty _ _ = false

abbrev pub is_known : Bool → Option Bool → Bool
is_known true (Some b) = b
is_known false (Some b) = not b
is_known _ None = false

-- 40: for_all is true where its formula is true or its literal ends leave no number, for_some is false where its formula is
-- false or they leave none
abbrev pub quantified : Bool → Option ℤ → Option ℤ → Option Bool → Option Right
quantified unit c d p = when (is_known unit p || is_empty c d) (Is (Truth unit))

-- ---- sums of cells

-- 41: total(m,[c],[d]) is 0, where c is above d
abbrev pub empty_total : Option ℤ → Option ℤ → Option Right
empty_total c d = when (is_empty c d) (Is (Literal (pos 0)))

-- 42: total(m,[x],[x]) is element(m,[x])
abbrev pub total_of_one : Bool → Tree → Tree → Option Right
total_of_one same m x = when same (Made (Element m x))

-- ---- the rules that match a node, in order

-- the right side as a tree
abbrev pub written : Right → Tree
written (Is t) = t
written (Made t) = t
written (MadePlus t c) = Add t (Literal c)
written (MadeModulo t c) = Remainder t (Literal c)

unfoldable pub sum_rule : Tree → Tree → Option Right
sum_rule x y =
    first (fold_two (λ c d. c +ℤ d) (literal x) (literal y)) (first (literal_last (literal x) y (literal y)) (first (plus_zero x (literal y))
    (first (join_offsets (offset x) (literal y)) (first (left_offset_out (offset x) y (literal y)) (first (right_offset_out x (offset y))
    (whole_again (multiple x) (reduced y)))))))

unfoldable pub difference_rule : Tree → Tree → Option Right
difference_rule x y =
    first (fold_two (λ c d. c -ℤ d) (literal x) (literal y)) (first (same_difference (tree_eq x y)) (minus_literal x (literal y)))

unfoldable pub product_rule : Tree → Tree → Option Right
product_rule x y =
    first (fold_two (λ c d. c *ℤ d) (literal x) (literal y)) (first (factor_first x (literal x) (literal y)) (first (zero_times (literal x))
    (first (one_times (literal x) y) (first (join_factors (literal x) (multiple y)) (factor_in (literal x) (offset y))))))

unfoldable pub quotient_rule : Tree → Tree → Option Right
quotient_rule x y =
    first (fold_two quotient (literal x) (literal y)) (first (over_one x (literal y)) (first (small_quotient (interval x) (literal y))
    (quotient_of_multiple (multiple_sum x) (literal y))))

unfoldable pub remainder_rule : Tree → Tree → Option Right
remainder_rule x y =
    first (fold_two remainder (literal x) (literal y)) (first (modulo_one (literal y)) (first (small_remainder x (interval x) (literal y))
    (first (remainder_twice (reduced x) (literal y)) (first (remainder_in_sum (reduced_sum x) (literal y))
    (first (offset_reduced (offset x) (literal y)) (remainder_of_multiple (multiple_sum x) (literal y)))))))

unfoldable pub byte_and_rule : Tree → Tree → Option Right
byte_and_rule x y =
    first (fold_two byte_and (literal x) (literal y)) (first (byte_with_itself (tree_eq x y) x)
    (first (byte_and_zero (literal x) (literal y)) (byte_with (pos 255) x (literal x) y (literal y))))

unfoldable pub byte_or_rule : Tree → Tree → Option Right
byte_or_rule x y =
    first (fold_two byte_or (literal x) (literal y)) (first (byte_with_itself (tree_eq x y) x) (byte_with (pos 0) x (literal x) y (literal y)))

unfoldable pub byte_xor_rule : Tree → Tree → Option Right
byte_xor_rule x y =
    first (fold_two byte_xor (literal x) (literal y)) (first (byte_xor_itself (tree_eq x y)) (byte_with (pos 0) x (literal x) y (literal y)))

unfoldable pub bit_rule : ℕ → Tree → Option Right
bit_rule k x = first (fold (bit k) (literal x)) (flag_bit k x)

unfoldable pub choice_rule : Tree → Tree → Tree → Option Right
choice_rule p x y = first (choice (truth p) (tree_eq x y) x y) (choice_false (truth p) y)

unfoldable pub comparison_rule : Relation → Tree → Tree → Option Right
comparison_rule r x y =
    first (compare_same r (tree_eq x y)) (first (compare_intervals r (interval x) (interval y))
    (first (compare_left_offset r (offset x) (literal y)) (first (compare_right_offset r (literal x) (offset y))
    (compare_based r x y))))

unfoldable pub equality_rule : Tree → Tree → Option Right
equality_rule x y =
    first (comparison_rule relation.Equal x y) (first (equal_turned (literal x) y (literal y)) (equal_choice x (literal y)))

unfoldable pub total_rule : Tree → Tree → Tree → Option Right
total_rule m x y = first (empty_total (literal x) (literal y)) (total_of_one (tree_eq x y) m x)

unfoldable pub rule : Tree → Option Right
rule (Literal n) = None
rule (Truth b) = None
rule (Variable v) = None
rule (Add x y) = sum_rule x y
rule (Subtract x y) = difference_rule x y
rule (Multiply x y) = product_rule x y
rule (Divide x y) = quotient_rule x y
rule (Remainder x y) = remainder_rule x y
rule (ByteAnd x y) = byte_and_rule x y
rule (ByteOr x y) = byte_or_rule x y
rule (ByteXor x y) = byte_xor_rule x y
rule (Parity x) = fold parity (literal x)
rule (Bit k x) = bit_rule k x
rule (Psw s z ac p cy) = fold_psw (literal s) (literal z) (literal ac) (literal p) (literal cy)
rule (If p x y) = choice_rule p x y
rule (Element m x) = element_of m x
rule (Update m x y) = update_of m x y
rule (Total m x y) = total_rule m x y
rule (Equal x y) = equality_rule x y
rule (Less x y) = comparison_rule relation.Less x y
rule (LessOrEqual x y) = comparison_rule relation.LessOrEqual x y
rule (Not p) = negated p
rule (And p q) = joined true p (truth p) q (truth q) (tree_eq p q)
rule (Or p q) = joined false p (truth p) q (truth q) (tree_eq p q)
rule (Implies p q) = implied p (truth p) q (truth q) (tree_eq p q)
rule (Iff p q) = equivalent p (truth p) q (truth q) (tree_eq p q)
rule (ForAll k x y p) = quantified true (literal x) (literal y) (truth p)
rule (ForSome k x y p) = quantified false (literal x) (literal y) (truth p)
