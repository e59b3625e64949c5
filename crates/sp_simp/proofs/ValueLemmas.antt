-- Each rule keeps the value of a term in every environment in which the variables are in their ranges.
use Rattle.std.proofs.Common.{ℕ, zero, suc, ◌+◌, ◌*◌, ◌^◌, ◌/◌, ◌%◌, ◌<◌, ◌≡◌, ◌≢◌, ◌⊎◌, inl, inr, refl, sym, ◌∙◌, ap, subst, arith, Bool, true, false, ◌&&◌, ◌||◌, not, ℤ, pos, negsuc, neg_ℤ, Option, Some, None}
use Rattle.std.specs.Prelude.{if◌then◌else◌, int_lt, int_le, ◌<ℤ◌, ◌≤ℤ◌, ◌+ℤ◌, ◌-ℤ◌, ◌*ℤ◌}
use Rattle.std.specs.Ordering.{int_eq}
use Rattle.std.specs.Int.Bits.{and_self, or_self, xor_self, and_comm, and_zero_l, and_zero_r, or_zero_l, or_zero_r, xor_zero_l, xor_zero_r}
use Rattle.std.proofs.lemmas.Nat.{and_mask}
use Rattle.std.proofs.lemmas.Bool.{and_parts, or_cases}
use Rattle.std.proofs.lemmas.Bool.Decides.{Decides-int_eq}
use Rattle.std.proofs.lemmas.Int.{ints, by_lt_z}
use Rattle.std.proofs.Math.IntN.{*ℤ_comm, zero-*ℤ}
use Rattle.sp_base.specs.Integers.{quotient, remainder, low_byte, byte_and, byte_or, byte_xor, parity, sum_between, all_between, some_between, all_from, some_from, count_between}
use Rattle.sp_base.proofs.IntegerLemmas.{low_byte_is, low_byte_below, count_none, sum_between_none}
use Rattle.sp_term.specs.declared.interval.Interval.{Interval}
use Rattle.sp_term.specs.declared.var.Var.{Var}
use Rattle.sp_term.specs.declared.var.Var.TheVariants as var
use Rattle.sp_term.specs.Tree.{Tree, Literal, Truth, Variable, Add, Subtract, Multiply, Divide, Remainder, ByteAnd, ByteOr, ByteXor, Parity, Bit, Psw, If, Element, Update, Total, Equal, Less, LessOrEqual, Not, And, Or, Implies, Iff, ForAll, ForSome}
use Rattle.sp_term.specs.Sorts.{Sort, Int, Formula, Memory, sort_of, HasSort}
use Rattle.sp_term.specs.Value.{Env, Value, whole, cells, fact, variable_value, value, int_of, map_of, updated, bit, psw, low_bit, bind}
use Rattle.sp_term.specs.Admissible.{Region, greatest, IsUpTo}
use Rattle.sp_term.specs.Intervals.{literal, interval}
use Rattle.sp_term.proofs.MemoryLemmas.{there, elsewhere, one_cell}
use Rattle.sp_simp.specs.declared.relation.Relation.{Relation}
use Rattle.sp_simp.specs.declared.relation.Relation.TheVariants as relation
use Rattle.sp_simp.specs.Ranges.{IsInRanges}
use Rattle.sp_simp.specs.Same.{tree_eq, tree_one}
use Rattle.sp_simp.specs.Rules.{Right, Is, Made, MadePlus, MadeModulo, rule, written, compared, base, based, offset, is_within, is_divisor, is_reflexive, are_apart, is_shifted, are_disjoint, decided, verdict}
use Rattle.sp_simp.specs.Simple.{Leads, stays, is, made, made_plus, made_modulo, IsSimpleForm, of_literal, of_truth, of_variable, of_add, of_subtract, of_multiply, of_divide, of_remainder, of_byte_and, of_byte_or, of_byte_xor, of_parity, of_bit, of_psw, of_if, of_element, of_update, of_total, of_equal, of_less, of_less_or_equal, of_not, of_and, of_or, of_implies, of_iff, of_for_all, of_for_some}
use Rattle.sp_simp.specs.code.Rows.{Row, row_fold_add, row_fold_subtract, row_fold_multiply, row_fold_divide, row_fold_remainder, row_fold_byte_and, row_fold_byte_or, row_fold_byte_xor, row_fold_parity, row_fold_bit, row_fold_flags, row_same_difference, row_literal_last, row_factor_first, row_plus_zero, row_minus_literal, row_join_offsets, row_left_offset_out, row_right_offset_out, row_whole_again, row_zero_times, row_one_times, row_join_factors, row_factor_in, row_over_one, row_small_quotient, row_quotient_of_multiple, row_modulo_one, row_small_remainder, row_remainder_twice, row_remainder_in_sum, row_offset_reduced, row_remainder_of_multiple, row_and_itself, row_or_itself, row_xor_itself, row_zero_and, row_and_zero, row_full_and, row_and_full, row_zero_or, row_or_zero, row_zero_xor, row_xor_zero, row_bit_seven, row_bit_six, row_bit_four, row_bit_two, row_bit_zero, row_bit_one, row_bit_three, row_bit_five, row_if_true, row_if_false, row_if_same, row_element_same, row_element_other, row_update_again, row_compare_same, row_compare_intervals, row_compare_left_offset, row_compare_right_offset, row_compare_offsets, row_compare_bases, row_equal_turned, row_choice_first, row_choice_second, row_choice_neither, row_not_truth, row_not_not, row_not_less_or_equal, row_not_less, row_true_and, row_and_true, row_false_and, row_and_false, row_and_same, row_false_or, row_or_false, row_true_or, row_or_true, row_or_same, row_true_implies, row_false_implies, row_implies_true, row_implies_false, row_implies_same, row_true_iff, row_iff_true, row_false_iff, row_iff_false, row_iff_same, row_for_all_true, row_for_all_empty, row_for_some_false, row_for_some_empty, row_empty_total, row_total_of_one}
use Rattle.sp_simp.proofs.RootLemmas.{offset_of, literal_of, int_one, int_self}
use Rattle.sp_simp.proofs.RowLemmas.{rule_row}
use Rattle.sp_simp.proofs.SortLemmas.{compared_parts, rule_sort, leads_sort, simple_sort}
use Rattle.sp_simp.proofs.ProductLemmas.{dist, assoc, one-times, times-one}
use Rattle.sp_simp.proofs.RemainderLemmas.{division, divided_as, remainder_again, remainder_of_remainder, remainder_of_offset, le_true, lt_true}
use Rattle.sp_simp.proofs.IntervalLemmas.{Within, bounds, low_bit_below}

-- ---- a term of a sort has no value of another one

abbrev pub only : Sort → Value → Value
only Int x = whole x.int
only Formula x = fact x.truth
only Memory x = cells x.map

only_variable : (s : Sort) (e : Env) (v : Var) → variable_value s e v ≡ only s (variable_value s e v)
only_variable Int e v = refl
only_variable Formula e v = refl
only_variable Memory e v = refl

pub value_only : (t : Tree) (s : Sort) → HasSort t s → (e : Env) → value e t ≡ only s (value e t)
value_only (Literal n) s h e = subst (λ r. value e (Literal n) ≡ only r (value e (Literal n))) (sym h) refl
value_only (Truth b) s h e = subst (λ r. value e (Truth b) ≡ only r (value e (Truth b))) (sym h) refl
value_only (Variable v) s h e = subst (λ r. variable_value (sort_of v) e v ≡ only r (variable_value (sort_of v) e v)) (sym h.0) (only_variable (sort_of v) e v)
value_only (Add x y) s h e = subst (λ r. value e (Add x y) ≡ only r (value e (Add x y))) (sym h.0) refl
value_only (Subtract x y) s h e = subst (λ r. value e (Subtract x y) ≡ only r (value e (Subtract x y))) (sym h.0) refl
value_only (Multiply x y) s h e = subst (λ r. value e (Multiply x y) ≡ only r (value e (Multiply x y))) (sym h.0) refl
value_only (Divide x y) s h e = subst (λ r. value e (Divide x y) ≡ only r (value e (Divide x y))) (sym h.0) refl
value_only (Remainder x y) s h e = subst (λ r. value e (Remainder x y) ≡ only r (value e (Remainder x y))) (sym h.0) refl
value_only (ByteAnd x y) s h e = subst (λ r. value e (ByteAnd x y) ≡ only r (value e (ByteAnd x y))) (sym h.0) refl
value_only (ByteOr x y) s h e = subst (λ r. value e (ByteOr x y) ≡ only r (value e (ByteOr x y))) (sym h.0) refl
value_only (ByteXor x y) s h e = subst (λ r. value e (ByteXor x y) ≡ only r (value e (ByteXor x y))) (sym h.0) refl
value_only (Parity x) s h e = subst (λ r. value e (Parity x) ≡ only r (value e (Parity x))) (sym h.0) refl
value_only (Bit k x) s h e = subst (λ r. value e (Bit k x) ≡ only r (value e (Bit k x))) (sym h.0) refl
value_only (Psw x y z u v) s h e = subst (λ r. value e (Psw x y z u v) ≡ only r (value e (Psw x y z u v))) (sym h.0) refl
value_only (If x y z) s h e = subst (λ r. value e (If x y z) ≡ only r (value e (If x y z))) (sym h.0) refl
value_only (Element x y) s h e = subst (λ r. value e (Element x y) ≡ only r (value e (Element x y))) (sym h.0) refl
value_only (Update x y z) s h e = subst (λ r. value e (Update x y z) ≡ only r (value e (Update x y z))) (sym h.0) refl
value_only (Total x y z) s h e = subst (λ r. value e (Total x y z) ≡ only r (value e (Total x y z))) (sym h.0) refl
value_only (Equal x y) s h e = subst (λ r. value e (Equal x y) ≡ only r (value e (Equal x y))) (sym h.0) refl
value_only (Less x y) s h e = subst (λ r. value e (Less x y) ≡ only r (value e (Less x y))) (sym h.0) refl
value_only (LessOrEqual x y) s h e = subst (λ r. value e (LessOrEqual x y) ≡ only r (value e (LessOrEqual x y))) (sym h.0) refl
value_only (Not x) s h e = subst (λ r. value e (Not x) ≡ only r (value e (Not x))) (sym h.0) refl
value_only (And x y) s h e = subst (λ r. value e (And x y) ≡ only r (value e (And x y))) (sym h.0) refl
value_only (Or x y) s h e = subst (λ r. value e (Or x y) ≡ only r (value e (Or x y))) (sym h.0) refl
value_only (Implies x y) s h e = subst (λ r. value e (Implies x y) ≡ only r (value e (Implies x y))) (sym h.0) refl
value_only (Iff x y) s h e = subst (λ r. value e (Iff x y) ≡ only r (value e (Iff x y))) (sym h.0) refl
value_only (ForAll k x y z) s h e = subst (λ r. value e (ForAll k x y z) ≡ only r (value e (ForAll k x y z))) (sym h.0) refl
value_only (ForSome k x y z) s h e = subst (λ r. value e (ForSome k x y z) ≡ only r (value e (ForSome k x y z))) (sym h.0) refl

-- from an equation of whole numbers, truth values or maps
int_kept : (e : Env) (t : Tree) (z : ℤ) → HasSort t Int → z ≡ int_of e t → whole z ≡ value e t
int_kept e t z h q = ap whole q ∙ sym (value_only t Int h e)

truth_kept : (e : Env) (t : Tree) (b : Bool) → HasSort t Formula → b ≡ (value e t).truth → fact b ≡ value e t
truth_kept e t b h q = ap fact q ∙ sym (value_only t Formula h e)

-- ---- truth values

and_true : (b : Bool) → (b && true) ≡ b
and_true true = refl
and_true false = refl

and_false : (b : Bool) → (b && false) ≡ false
and_false true = refl
and_false false = refl

and_same : (b : Bool) → (b && b) ≡ b
and_same true = refl
and_same false = refl

or_false : (b : Bool) → (b || false) ≡ b
or_false true = refl
or_false false = refl

or_true : (b : Bool) → (b || true) ≡ true
or_true true = refl
or_true false = refl

or_same : (b : Bool) → (b || b) ≡ b
or_same true = refl
or_same false = refl

implies_same : (b : Bool) → (not b || b) ≡ true
implies_same true = refl
implies_same false = refl

iff_true : (b : Bool) → (if b then true else not true) ≡ b
iff_true true = refl
iff_true false = refl

iff_false : (b : Bool) → (if b then false else not false) ≡ not b
iff_false true = refl
iff_false false = refl

iff_same : (b : Bool) → (if b then b else not b) ≡ true
iff_same true = refl
iff_same false = refl

not_not : (b : Bool) → not (not b) ≡ b
not_not true = refl
not_not false = refl

-- one whole number in both cases
in_both : (b : Bool) (x : ℤ) → (if b then x else x) ≡ x
in_both true x = refl
in_both false x = refl

-- ---- comparisons of whole numbers

le_same : (a b c d : ℤ) → (a ≤ℤ b → c ≤ℤ d) → (c ≤ℤ d → a ≤ℤ b) → int_le a b ≡ int_le c d
le_same a b c d f g = by (int_le a b) (int_le c d) refl refl
  where
    by : (p q : Bool) → int_le a b ≡ p → int_le c d ≡ q → p ≡ q
    by true true h k = refl
    by false false h k = refl
    by true false h k = absurd (let j : c ≤ℤ d = f (omega (arith, ints, h)) in omega (arith, ints, j, k))
    by false true h k = absurd (let j : a ≤ℤ b = g (omega (arith, ints, k)) in omega (arith, ints, j, h))

lt_same : (a b c d : ℤ) → (a <ℤ b → c <ℤ d) → (c <ℤ d → a <ℤ b) → int_lt a b ≡ int_lt c d
lt_same a b c d f g = by (int_lt a b) (int_lt c d) refl refl
  where
    by : (p q : Bool) → int_lt a b ≡ p → int_lt c d ≡ q → p ≡ q
    by true true h k = refl
    by false false h k = refl
    by true false h k = absurd (let j : c <ℤ d = f (omega (arith, ints, h)) in omega (arith, ints, j, k))
    by false true h k = absurd (let j : a <ℤ b = g (omega (arith, ints, k)) in omega (arith, ints, j, h))

eq_true : (a b : ℤ) → a ≡ b → int_eq a b ≡ true
eq_true a b h = (Decides-int_eq a b).1 h

eq_false : (a b : ℤ) → a ≢ b → int_eq a b ≡ false
eq_false a b h = by (int_eq a b) refl
  where
    by : (p : Bool) → int_eq a b ≡ p → p ≡ false
    by false k = refl
    by true k = absurd (h (int_one a b k))

eq_same : (a b c d : ℤ) → (a ≡ b → c ≡ d) → (c ≡ d → a ≡ b) → int_eq a b ≡ int_eq c d
eq_same a b c d f g = by (int_eq a b) refl
  where
    by : (p : Bool) → int_eq a b ≡ p → p ≡ int_eq c d
    by true k = sym (eq_true c d (f (int_one a b k)))
    by false k = sym (eq_false c d (λ j. let l : false ≡ true = sym k ∙ eq_true a b (g j) in absurd (cc)))

le_false : (a b : ℤ) → b <ℤ a → int_le a b ≡ false
le_false a b h = by (int_le a b) refl
  where
    by : (t : Bool) → int_le a b ≡ t → t ≡ false
    by false e = refl
    by true e = absurd (omega (arith, ints))

lt_false : (a b : ℤ) → b ≤ℤ a → int_lt a b ≡ false
lt_false a b h = by (int_lt a b) refl
  where
    by : (t : Bool) → int_lt a b ≡ t → t ≡ false
    by false e = refl
    by true e = absurd (omega (arith, ints))

not_le : (a b : ℤ) → not (int_le a b) ≡ int_lt b a
not_le a b = by_lt_z b a (λ l. ap not (le_false a b l) ∙ sym (lt_true b a l)) (λ l. ap not (le_true a b l) ∙ sym (lt_false b a l))

not_lt : (a b : ℤ) → not (int_lt a b) ≡ int_le b a
not_lt a b = by_lt_z a b (λ l. ap not (lt_true a b l) ∙ sym (le_false b a l)) (λ l. ap not (lt_false a b l) ∙ sym (le_true b a l))

-- a relation between whole numbers
abbrev test : Relation → ℤ → ℤ → Bool
test relation.Equal a b = int_eq a b
test relation.Less a b = int_lt a b
test relation.LessOrEqual a b = int_le a b

compared_value : (e : Env) (r : Relation) (x y : Tree) → value e (compared r x y) ≡ fact (test r (int_of e x) (int_of e y))
compared_value e relation.Equal x y = refl
compared_value e relation.Less x y = refl
compared_value e relation.LessOrEqual x y = refl

test_self : (r : Relation) (a : ℤ) → test r a a ≡ is_reflexive r
test_self relation.Equal a = int_self a
test_self relation.Less a = lt_false a a (omega (arith, ints))
test_self relation.LessOrEqual a = le_true a a (omega (arith, ints))

-- the differences of two pairs of numbers are the same
test_same : (r : Relation) (a b c d : ℤ) → a +ℤ d ≡ c +ℤ b → test r a b ≡ test r c d
test_same relation.Equal a b c d h = eq_same a b c d (λ k. omega (arith, ints, h, k)) (λ k. omega (arith, ints, h, k))
test_same relation.Less a b c d h = lt_same a b c d (λ k. omega (arith, ints, h, k)) (λ k. omega (arith, ints, h, k))
test_same relation.LessOrEqual a b c d h = le_same a b c d (λ k. omega (arith, ints, h, k)) (λ k. omega (arith, ints, h, k))

verdict_of : (a b : Bool) (c : Bool) → verdict a b ≡ Some (Is (Truth c)) → ((a ≡ true) × (c ≡ true)) ⊎ ((b ≡ true) × (c ≡ false))
verdict_of true b true e = inl (refl, refl)
verdict_of true b false e = absurd (cc)
verdict_of false true false e = inr (refl, refl)
verdict_of false true true e = absurd (cc)
verdict_of false false c e = absurd (cc)

decided_equal : (i j : Interval) (c : Bool) (a b : ℤ) → Within i a → Within j b →
    ((((int_le i.high j.low && int_le j.high i.low) ≡ true) × (c ≡ true)) ⊎ (((int_lt i.high j.low || int_lt j.high i.low) ≡ true) × (c ≡ false))) → int_eq a b ≡ c
decided_equal i j c a b w v (inl h) = let k = and_parts (int_le i.high j.low) (int_le j.high i.low) h.0 in
    eq_true a b (omega (arith, ints, w.low, w.high, v.low, v.high, k.0, k.1)) ∙ sym h.1
decided_equal i j c a b w v (inr h) = elim (or_cases (int_lt i.high j.low) (int_lt j.high i.low) h.0) [
  | inl k ↦ eq_false a b (λ q. omega (arith, ints, w.low, w.high, v.low, v.high, k, q)) ∙ sym h.1
  | inr k ↦ eq_false a b (λ q. omega (arith, ints, w.low, w.high, v.low, v.high, k, q)) ∙ sym h.1
]

decided_test : (r : Relation) (i j : Interval) (c : Bool) (a b : ℤ) → decided r i j ≡ Some (Is (Truth c)) → Within i a → Within j b → test r a b ≡ c
decided_test relation.Equal i j c a b e w v = decided_equal i j c a b w v (verdict_of _ _ c e)
decided_test relation.Less i j c a b e w v = elim (verdict_of _ _ c e) [
  | inl h ↦ lt_true a b (omega (arith, ints, w.low, w.high, v.low, v.high, h.0)) ∙ sym h.1
  | inr h ↦ lt_false a b (omega (arith, ints, w.low, w.high, v.low, v.high, h.0)) ∙ sym h.1
]
decided_test relation.LessOrEqual i j c a b e w v = elim (verdict_of _ _ c e) [
  | inl h ↦ le_true a b (omega (arith, ints, w.low, w.high, v.low, v.high, h.0)) ∙ sym h.1
  | inr h ↦ le_false a b (omega (arith, ints, w.low, w.high, v.low, v.high, h.0)) ∙ sym h.1
]

-- ---- bases and offsets

based_value : (e : Env) (t : Tree) (o : Option (Tree × ℤ)) (c : Option ℤ) → offset t ≡ o → literal t ≡ c → int_of e t ≡ int_of e (based t o c).0 +ℤ (based t o c).1
based_value e t (Some p) c h g = ap (int_of e) (offset_of t p h)
based_value e t None (Some n) h g = ap (int_of e) (literal_of t n g) ∙ (let k : n ≡ pos 0 +ℤ n = omega (arith, ints) in k)
based_value e t None None h g = omega (arith, ints)

base_value : (e : Env) (t : Tree) → int_of e t ≡ int_of e (base t).0 +ℤ (base t).1
base_value e t = based_value e t (offset t) (literal t) refl refl

not_true : (b : Bool) → not b ≡ true → b ≡ false
not_true false h = refl
not_true true h = absurd (cc)

shifted_apart : (e : Env) (x y : Tree) → is_shifted (base x) (base y) ≡ true → int_of e y ≢ int_of e x
shifted_apart e x y h k =
    let a = and_parts (tree_eq (base x).0 (base y).0) (not (int_eq (base x).1 (base y).1)) h in
    let same = ap (int_of e) (tree_one (base x).0 (base y).0 a.0) in
    let one : (base x).1 ≡ (base y).1 = omega (arith, ints, base_value e x, base_value e y, same, k) in
    let no : int_eq (base x).1 (base y).1 ≡ false = not_true _ a.1 in
    let yes : int_eq (base x).1 (base y).1 ≡ true = eq_true _ _ one in
    cc

disjoint_apart : (a b : Option Interval) (x y : ℤ) → ((i : Interval) → a ≡ Some i → Within i x) → ((i : Interval) → b ≡ Some i → Within i y) → are_disjoint a b ≡ true → y ≢ x
disjoint_apart (Some i) (Some j) x y f g h k =
    let w = f i refl in
    let v = g j refl in
    elim (or_cases (int_lt i.high j.low) (int_lt j.high i.low) h) [
      | inl l ↦ omega (arith, ints, w.low, w.high, v.low, v.high, l, k)
      | inr l ↦ omega (arith, ints, w.low, w.high, v.low, v.high, l, k)
    ]
disjoint_apart (Some i) None x y f g h k = cc
disjoint_apart None _ x y f g h k = cc

apart : (stack : Region) (e : Env) → IsInRanges stack e → (x y : Tree) → HasSort x Int → HasSort y Int → are_apart x y ≡ true → int_of e y ≢ int_of e x
apart stack e r x y hx hy h = elim (or_cases (is_shifted (base x) (base y)) (are_disjoint (interval x) (interval y)) h) [
  | inl s ↦ shifted_apart e x y s
  | inr d ↦ disjoint_apart (interval x) (interval y) _ _ (bounds stack e r x Int hx) (bounds stack e r y Int hy) d
]

-- ---- numbers within 0 to c - 1

within_bounds : (i : Option Interval) (c z : ℤ) → ((j : Interval) → i ≡ Some j → Within j z) → is_within i c ≡ true → (pos 0 ≤ℤ z) × (z <ℤ c)
within_bounds (Some i) c z f h =
    let w = f i refl in
    let a = and_parts (int_le (pos 0) i.low) (int_lt i.high c) h in
    (omega (arith, ints, w.low, a.0), omega (arith, ints, w.high, a.1))
within_bounds None c z f h = absurd (cc)

within : (stack : Region) (e : Env) → IsInRanges stack e → (x : Tree) (c : ℤ) → HasSort x Int → is_within (interval x) c ≡ true → (pos 0 ≤ℤ int_of e x) × (int_of e x <ℤ c)
within stack e r x c h w = within_bounds (interval x) c (int_of e x) (bounds stack e r x Int h) w

positive : (z c : ℤ) → pos 0 ≤ℤ z → z <ℤ c → int_lt (pos 0) c ≡ true
positive z c l h = lt_true (pos 0) c (omega (arith, ints))

of_multiple : (c y x : ℤ) → pos 0 ≤ℤ x → x <ℤ c → (quotient ((c *ℤ y) +ℤ x) c ≡ y) × (remainder ((c *ℤ y) +ℤ x) c ≡ x)
of_multiple c y x l h = divided_as ((c *ℤ y) +ℤ x) c y x (positive x c l h) (ap (λ w. w +ℤ x) (*ℤ_comm c y)) l h

small : (x c : ℤ) → pos 0 ≤ℤ x → x <ℤ c → (quotient x c ≡ pos 0) × (remainder x c ≡ x)
small x c l h = divided_as x c (pos 0) x (positive x c l h) (omega (arith, ints, zero-*ℤ c)) l h

by_one : (x : ℤ) → (quotient x (pos 1) ≡ x) × (remainder x (pos 1) ≡ pos 0)
by_one x = divided_as x (pos 1) x (pos 0) refl (omega (arith, ints, times-one x)) (omega (arith, ints)) (omega (arith, ints))

divisor_parts : (d c : ℤ) → is_divisor d c ≡ true → (int_lt (pos 0) c ≡ true) × (int_lt (pos 0) d ≡ true) × (remainder c d ≡ pos 0)
divisor_parts d c h =
    let a = and_parts (int_lt (pos 0) c && int_lt (pos 0) d) (int_eq (remainder c d) (pos 0)) h in
    let b = and_parts (int_lt (pos 0) c) (int_lt (pos 0) d) a.0 in
    (b.0, b.1, int_one (remainder c d) (pos 0) a.1)

whole_again : (x c : ℤ) → int_lt (pos 0) c ≡ true → (c *ℤ quotient x c) +ℤ remainder x c ≡ x
whole_again x c h = ap (λ w. w +ℤ remainder x c) (*ℤ_comm c (quotient x c)) ∙ sym (division x c h).whole

-- ---- bytes and bits

low_byte_again : (x : ℤ) → low_byte x % 256 ≡ low_byte x
low_byte_again x = let h = low_byte_below x in omega arith

and_full : (x : ℤ) → byte_and x (pos 255) ≡ remainder x (pos 256)
and_full x = ap pos (and_mask (low_byte x) 8 ∙ low_byte_again x) ∙ sym (low_byte_is x)

full_and : (x : ℤ) → byte_and (pos 255) x ≡ remainder x (pos 256)
full_and x = ap pos (and_comm 255 (low_byte x)) ∙ and_full x

low_bit_small : (s : ℤ) → pos 0 ≤ℤ s → s <ℤ pos 2 → pos (low_bit s) ≡ s
low_bit_small (pos n) l h = let k : n < 2 = omega (arith, ints, h) in ap pos (let j : n % 2 ≡ n = omega arith in j)
low_bit_small (negsuc n) l h = absurd (omega (arith, ints, l))

seven : (a b c d f : ℕ) → a < 2 → b < 2 → c < 2 → d < 2 → f < 2 → (128 * a + 64 * b + 16 * c + 4 * d + 2 + f) / 128 % 2 ≡ a
seven a b c d f h1 h2 h3 h4 h5 = omega arith

six : (a b c d f : ℕ) → a < 2 → b < 2 → c < 2 → d < 2 → f < 2 → (128 * a + 64 * b + 16 * c + 4 * d + 2 + f) / 64 % 2 ≡ b
six a b c d f h1 h2 h3 h4 h5 = omega arith

five : (a b c d f : ℕ) → a < 2 → b < 2 → c < 2 → d < 2 → f < 2 → (128 * a + 64 * b + 16 * c + 4 * d + 2 + f) / 32 % 2 ≡ 0
five a b c d f h1 h2 h3 h4 h5 = omega arith

four : (a b c d f : ℕ) → a < 2 → b < 2 → c < 2 → d < 2 → f < 2 → (128 * a + 64 * b + 16 * c + 4 * d + 2 + f) / 16 % 2 ≡ c
four a b c d f h1 h2 h3 h4 h5 = omega arith

three : (a b c d f : ℕ) → a < 2 → b < 2 → c < 2 → d < 2 → f < 2 → (128 * a + 64 * b + 16 * c + 4 * d + 2 + f) / 8 % 2 ≡ 0
three a b c d f h1 h2 h3 h4 h5 = omega arith

two : (a b c d f : ℕ) → a < 2 → b < 2 → c < 2 → d < 2 → f < 2 → (128 * a + 64 * b + 16 * c + 4 * d + 2 + f) / 4 % 2 ≡ d
two a b c d f h1 h2 h3 h4 h5 = omega arith

one : (a b c d f : ℕ) → a < 2 → b < 2 → c < 2 → d < 2 → f < 2 → (128 * a + 64 * b + 16 * c + 4 * d + 2 + f) / 2 % 2 ≡ 1
one a b c d f h1 h2 h3 h4 h5 = omega arith

zero_bit : (a b c d f : ℕ) → a < 2 → b < 2 → c < 2 → d < 2 → f < 2 → (128 * a + 64 * b + 16 * c + 4 * d + 2 + f) / 1 % 2 ≡ f
zero_bit a b c d f h1 h2 h3 h4 h5 = omega arith

-- a bit of the flags as a byte, by what it is of their low bits
of_flags : (k : ℕ) (g : (a b c d f : ℕ) → ℕ) → ((a b c d f : ℕ) → a < 2 → b < 2 → c < 2 → d < 2 → f < 2 → (128 * a + 64 * b + 16 * c + 4 * d + 2 + f) / 2 ^ k % 2 ≡ g a b c d f) →
    ((n : ℕ) → quotient (pos n) (pos (2 ^ k)) ≡ pos (n / 2 ^ k)) → (s z ac p cy : ℤ) → bit k (psw s z ac p cy) ≡ pos (g (low_bit s) (low_bit z) (low_bit ac) (low_bit p) (low_bit cy))
of_flags k g h q s z ac p cy =
    ap (λ w. pos (low_bit w)) (q (128 * low_bit s + 64 * low_bit z + 16 * low_bit ac + 4 * low_bit p + 2 + low_bit cy))
    ∙ ap pos (h (low_bit s) (low_bit z) (low_bit ac) (low_bit p) (low_bit cy) (low_bit_below s) (low_bit_below z) (low_bit_below ac) (low_bit_below p) (low_bit_below cy))

-- ---- memories and quantifiers

written_again : (m : ℤ → ℤ) (x v w : ℤ) → updated (updated m x v) x w ≡ updated m x w
written_again m x v w i z = by (int_eq z x) i
  where
    by : (b : Bool) → (if b then w else if b then v else m z) ≡ (if b then w else m z)
    by true = refl
    by false = refl

all_true : (z : ℤ) (n : ℕ) → all_from (λ w. true) z n ≡ true
unfolding all_from
all_true z zero = refl
all_true z (suc n) = all_true (z +ℤ pos 1) n

some_false : (z : ℤ) (n : ℕ) → some_from (λ w. false) z n ≡ false
unfolding some_from
some_false z zero = refl
some_false z (suc n) = some_false (z +ℤ pos 1) n

all_empty : (p : ℤ → Bool) (c d : ℤ) → int_lt d c ≡ true → all_between p c d ≡ true
unfolding all_from
all_empty p c d h = ap (all_from p c) (count_none c d (omega (arith, ints, h)))

some_empty : (p : ℤ → Bool) (c d : ℤ) → int_lt d c ≡ true → some_between p c d ≡ false
unfolding some_from
some_empty p c d h = ap (some_from p c) (count_none c d (omega (arith, ints, h)))

-- ---- sums of three

joined : (a c d : ℤ) → (a +ℤ c) +ℤ d ≡ a +ℤ (c +ℤ d)
joined a c d = omega (arith, ints)

exchanged : (a b c : ℤ) → (a +ℤ c) +ℤ b ≡ (a +ℤ b) +ℤ c
exchanged a b c = omega (arith, ints)

nothing_left : (a : ℤ) → a -ℤ a ≡ pos 0
nothing_left a = omega (arith, ints)

turned : (a c : ℤ) → c +ℤ a ≡ a +ℤ c
turned a c = omega (arith, ints)

plus_zero : (a : ℤ) → a +ℤ pos 0 ≡ a
plus_zero a = omega (arith, ints)

minus : (a c : ℤ) → a -ℤ c ≡ a +ℤ neg_ℤ c
minus a c = omega (arith, ints)

factor_in : (c a d : ℤ) → c *ℤ (a +ℤ d) ≡ (c *ℤ a) +ℤ (c *ℤ d)
factor_in c a d = dist c a d

either_number : (p : Bool) (c d : ℤ) → int_eq c d ≡ false → int_eq (if p then c else d) c ≡ p
either_number true c d h = int_self c
either_number false c d h = eq_false d c (λ e. let k : int_eq c d ≡ true = eq_true c d (sym e) in cc)

other_number : (p : Bool) (c d : ℤ) → int_eq c d ≡ false → int_eq (if p then c else d) d ≡ not p
other_number true c d h = h
other_number false c d h = int_self d

neither_number : (p : Bool) (c d e : ℤ) → int_eq c e ≡ false → int_eq d e ≡ false → int_eq (if p then c else d) e ≡ false
neither_number true c d e h g = h
neither_number false c d e h g = g

-- ---- the rules

row_value : (stack : Region) (e : Env) → IsInRanges stack e → {t : Tree} {p : Right} → Row t p → (sort : Sort) → HasSort t sort → value e t ≡ value e (written p)
row_value stack e r (row_fold_add c d) sort h = refl
row_value stack e r (row_fold_subtract c d) sort h = refl
row_value stack e r (row_fold_multiply c d) sort h = refl
row_value stack e r (row_fold_divide c d) sort h = refl
row_value stack e r (row_fold_remainder c d) sort h = refl
row_value stack e r (row_fold_byte_and c d) sort h = refl
row_value stack e r (row_fold_byte_or c d) sort h = refl
row_value stack e r (row_fold_byte_xor c d) sort h = refl
row_value stack e r (row_fold_parity c) sort h = refl
row_value stack e r (row_fold_bit k c) sort h = refl
row_value stack e r (row_fold_flags s z ac p cy) sort h = refl
row_value stack e r (row_same_difference x) sort h = ap whole (nothing_left (int_of e x))
row_value stack e r (row_literal_last c x h0) sort h = ap whole (turned (int_of e x) c)
row_value stack e r (row_factor_first x c h0) sort h = ap whole (*ℤ_comm (int_of e x) c)
row_value stack e r (row_plus_zero x) sort h = int_kept e x _ h.1 (plus_zero (int_of e x))
row_value stack e r (row_minus_literal x c) sort h = ap whole (minus (int_of e x) c)
row_value stack e r (row_join_offsets x c d) sort h = ap whole (joined (int_of e x) c d)
row_value stack e r (row_left_offset_out x y c h0) sort h = ap whole (exchanged (int_of e x) (int_of e y) c)
row_value stack e r (row_right_offset_out x y c) sort h = ap whole (sym (joined (int_of e x) (int_of e y) c))
row_value stack e r (row_whole_again x c h0) sort h = int_kept e x _ h.2.1 (whole_again (int_of e x) c h0)
row_value stack e r (row_zero_times x) sort h = ap whole (zero-*ℤ (int_of e x))
row_value stack e r (row_one_times x) sort h = int_kept e x _ h.2 (one-times (int_of e x))
row_value stack e r (row_join_factors c d x) sort h = ap whole (sym (assoc c d (int_of e x)))
row_value stack e r (row_factor_in c d x) sort h = ap whole (factor_in c (int_of e x) d)
row_value stack e r (row_over_one x) sort h = int_kept e x _ h.1 (by_one (int_of e x)).0
row_value stack e r (row_small_quotient x c h0) sort h = let w = within stack e r x c h.1 h0 in ap whole (small (int_of e x) c w.0 w.1).0
row_value stack e r (row_quotient_of_multiple c y x h0) sort h = let w = within stack e r x c h.1.2 h0 in int_kept e y _ h.1.1.2 (of_multiple c (int_of e y) (int_of e x) w.0 w.1).0
row_value stack e r (row_modulo_one x) sort h = ap whole (by_one (int_of e x)).1
row_value stack e r (row_small_remainder x c h0) sort h = let w = within stack e r x c h.1 h0 in int_kept e x _ h.1 (small (int_of e x) c w.0 w.1).1
row_value stack e r (row_remainder_twice x c d h0) sort h = let w = divisor_parts d c h0 in ap whole (sym (remainder_of_remainder (int_of e x) c d w.0 w.1 w.2))
row_value stack e r (row_remainder_in_sum x y c d h0) sort h = let w = divisor_parts d c h0 in ap whole (sym (remainder_again (int_of e x) (int_of e y) c d w.0 w.1 w.2))
row_value stack e r (row_offset_reduced x c d h0) sort h = ap whole (remainder_of_offset (int_of e x) c d (and_parts (int_lt (pos 0) d) (not (int_le (pos 0) c && int_lt c d)) h0).0)
row_value stack e r (row_remainder_of_multiple c y x h0) sort h = let w = within stack e r x c h.1.2 h0 in int_kept e x _ h.1.2 (of_multiple c (int_of e y) (int_of e x) w.0 w.1).1
row_value stack e r (row_and_itself x) sort h = ap whole (ap pos (and_self (low_byte (int_of e x))) ∙ sym (low_byte_is (int_of e x)))
row_value stack e r (row_or_itself x) sort h = ap whole (ap pos (or_self (low_byte (int_of e x))) ∙ sym (low_byte_is (int_of e x)))
row_value stack e r (row_xor_itself x) sort h = ap whole (ap pos (xor_self (low_byte (int_of e x))))
row_value stack e r (row_zero_and x) sort h = ap whole (ap pos (and_zero_l (low_byte (int_of e x))))
row_value stack e r (row_and_zero x) sort h = ap whole (ap pos (and_zero_r (low_byte (int_of e x))))
row_value stack e r (row_full_and x) sort h = ap whole (full_and (int_of e x))
row_value stack e r (row_and_full x) sort h = ap whole (and_full (int_of e x))
row_value stack e r (row_zero_or x) sort h = ap whole (ap pos (or_zero_l (low_byte (int_of e x))) ∙ sym (low_byte_is (int_of e x)))
row_value stack e r (row_or_zero x) sort h = ap whole (ap pos (or_zero_r (low_byte (int_of e x))) ∙ sym (low_byte_is (int_of e x)))
row_value stack e r (row_zero_xor x) sort h = ap whole (ap pos (xor_zero_l (low_byte (int_of e x))) ∙ sym (low_byte_is (int_of e x)))
row_value stack e r (row_xor_zero x) sort h = ap whole (ap pos (xor_zero_r (low_byte (int_of e x))) ∙ sym (low_byte_is (int_of e x)))
row_value stack e r (row_bit_seven s z ac p cy h0) sort h = let w = within stack e r s (pos 2) h.2.1 h0 in int_kept e s _ h.2.1 (of_flags 7 (λ a b c d f. a) seven (λ n. refl) (int_of e s) (int_of e z) (int_of e ac) (int_of e p) (int_of e cy) ∙ low_bit_small (int_of e s) w.0 w.1)
row_value stack e r (row_bit_six s z ac p cy h0) sort h = let w = within stack e r z (pos 2) h.2.2 h0 in int_kept e z _ h.2.2 (of_flags 6 (λ a b c d f. b) six (λ n. refl) (int_of e s) (int_of e z) (int_of e ac) (int_of e p) (int_of e cy) ∙ low_bit_small (int_of e z) w.0 w.1)
row_value stack e r (row_bit_four s z ac p cy h0) sort h = let w = within stack e r ac (pos 2) h.2.3 h0 in int_kept e ac _ h.2.3 (of_flags 4 (λ a b c d f. c) four (λ n. refl) (int_of e s) (int_of e z) (int_of e ac) (int_of e p) (int_of e cy) ∙ low_bit_small (int_of e ac) w.0 w.1)
row_value stack e r (row_bit_two s z ac p cy h0) sort h = let w = within stack e r p (pos 2) h.2.4 h0 in int_kept e p _ h.2.4 (of_flags 2 (λ a b c d f. d) two (λ n. refl) (int_of e s) (int_of e z) (int_of e ac) (int_of e p) (int_of e cy) ∙ low_bit_small (int_of e p) w.0 w.1)
row_value stack e r (row_bit_zero s z ac p cy h0) sort h = let w = within stack e r cy (pos 2) h.2.5 h0 in int_kept e cy _ h.2.5 (of_flags 0 (λ a b c d f. f) zero_bit (λ n. refl) (int_of e s) (int_of e z) (int_of e ac) (int_of e p) (int_of e cy) ∙ low_bit_small (int_of e cy) w.0 w.1)
row_value stack e r (row_bit_one s z ac p cy) sort h = ap whole (of_flags 1 (λ a b c d f. 1) one (λ n. refl) (int_of e s) (int_of e z) (int_of e ac) (int_of e p) (int_of e cy))
row_value stack e r (row_bit_three s z ac p cy) sort h = ap whole (of_flags 3 (λ a b c d f. 0) three (λ n. refl) (int_of e s) (int_of e z) (int_of e ac) (int_of e p) (int_of e cy))
row_value stack e r (row_bit_five s z ac p cy) sort h = ap whole (of_flags 5 (λ a b c d f. 0) five (λ n. refl) (int_of e s) (int_of e z) (int_of e ac) (int_of e p) (int_of e cy))
row_value stack e r (row_if_true x y) sort h = int_kept e x _ h.2 refl
row_value stack e r (row_if_false x y) sort h = int_kept e y _ h.3 refl
row_value stack e r (row_if_same p x) sort h = int_kept e x _ h.2 (in_both (value e p).truth (int_of e x))
row_value stack e r (row_element_same m x v) sort h = int_kept e v _ h.1.3 (there e m x v)
row_value stack e r (row_element_other m x v y h0) sort h = ap whole (elsewhere e m x v y (apart stack e r x y h.1.2 h.2 h0))
row_value stack e r (row_update_again m x v w) sort h = ap cells (written_again (map_of e m) (int_of e x) (int_of e v) (int_of e w))
row_value stack e r (row_compare_same q x) sort h = compared_value e q x x ∙ ap fact (test_self q (int_of e x))
row_value stack e r (row_compare_intervals q x y i j b h0 h1 h2) sort h = let k = compared_parts q x y sort h in compared_value e q x y ∙ ap fact (decided_test q i j b (int_of e x) (int_of e y) h2 (bounds stack e r x Int k.1 i h0) (bounds stack e r y Int k.2 j h1))
row_value stack e r (row_compare_left_offset q x c d) sort h = compared_value e q (Add x (Literal c)) (Literal d) ∙ ap fact (test_same q ((int_of e x) +ℤ c) d (int_of e x) (d -ℤ c) (omega (arith, ints))) ∙ sym (compared_value e q x (Literal (d -ℤ c)))
row_value stack e r (row_compare_right_offset q x c d) sort h = compared_value e q (Literal d) (Add x (Literal c)) ∙ ap fact (test_same q d ((int_of e x) +ℤ c) (d -ℤ c) (int_of e x) (omega (arith, ints))) ∙ sym (compared_value e q (Literal (d -ℤ c)) x)
row_value stack e r (row_compare_offsets q x y h0 h1) sort h = compared_value e q x y ∙ ap fact (test_same q (int_of e x) (int_of e y) (base x).1 (base y).1 (let k = ap (int_of e) (tree_one (base x).0 (base y).0 h1) in omega (arith, ints, base_value e x, base_value e y, k))) ∙ sym (compared_value e q (Literal (base x).1) (Literal (base y).1))
row_value stack e r (row_compare_bases q x y h0 h1 h2) sort h = compared_value e q x y ∙ ap fact (test_same q (int_of e x) (int_of e y) (int_of e (base x).0) (int_of e (base y).0) (let k : (base x).1 ≡ (base y).1 = int_one (base x).1 (base y).1 h1 in omega (arith, ints, base_value e x, base_value e y, k))) ∙ sym (compared_value e q (base x).0 (base y).0)
row_value stack e r (row_equal_turned c x h0) sort h = ap fact (eq_same c (int_of e x) (int_of e x) c sym sym)
row_value stack e r (row_choice_first p c d h0) sort h = truth_kept e p _ h.1.1 (either_number (value e p).truth c d h0)
row_value stack e r (row_choice_second p c d h0) sort h = ap fact (other_number (value e p).truth c d h0)
row_value stack e r (row_choice_neither p c d f h0 h1) sort h = ap fact (neither_number (value e p).truth c d f h0 h1)
row_value stack e r (row_not_truth b) sort h = refl
row_value stack e r (row_not_not p) sort h = truth_kept e p _ h.1.1 (not_not (value e p).truth)
row_value stack e r (row_not_less_or_equal x y) sort h = ap fact (not_le (int_of e x) (int_of e y))
row_value stack e r (row_not_less x y) sort h = ap fact (not_lt (int_of e x) (int_of e y))
row_value stack e r (row_true_and p) sort h = truth_kept e p _ h.2 refl
row_value stack e r (row_and_true p) sort h = truth_kept e p _ h.1 (and_true (value e p).truth)
row_value stack e r (row_false_and p) sort h = refl
row_value stack e r (row_and_false p) sort h = ap fact (and_false (value e p).truth)
row_value stack e r (row_and_same p) sort h = truth_kept e p _ h.1 (and_same (value e p).truth)
row_value stack e r (row_false_or p) sort h = truth_kept e p _ h.2 refl
row_value stack e r (row_or_false p) sort h = truth_kept e p _ h.1 (or_false (value e p).truth)
row_value stack e r (row_true_or p) sort h = refl
row_value stack e r (row_or_true p) sort h = ap fact (or_true (value e p).truth)
row_value stack e r (row_or_same p) sort h = truth_kept e p _ h.1 (or_same (value e p).truth)
row_value stack e r (row_true_implies p) sort h = truth_kept e p _ h.2 refl
row_value stack e r (row_false_implies p) sort h = refl
row_value stack e r (row_implies_true p) sort h = ap fact (or_true (not (value e p).truth))
row_value stack e r (row_implies_false p) sort h = ap fact (or_false (not (value e p).truth))
row_value stack e r (row_implies_same p) sort h = ap fact (implies_same (value e p).truth)
row_value stack e r (row_true_iff p) sort h = truth_kept e p _ h.2 refl
row_value stack e r (row_iff_true p) sort h = truth_kept e p _ h.1 (iff_true (value e p).truth)
row_value stack e r (row_false_iff p) sort h = refl
row_value stack e r (row_iff_false p) sort h = ap fact (iff_false (value e p).truth)
row_value stack e r (row_iff_same p) sort h = ap fact (iff_same (value e p).truth)
row_value stack e r (row_for_all_true k x y) sort h = ap fact (all_true (int_of e x) (count_between (int_of e x) (int_of e y)))
row_value stack e r (row_for_all_empty k c d p h0) sort h = ap fact (all_empty (λ z. (value (bind k z e) p).truth) c d h0)
row_value stack e r (row_for_some_false k x y) sort h = ap fact (some_false (int_of e x) (count_between (int_of e x) (int_of e y)))
row_value stack e r (row_for_some_empty k c d p h0) sort h = ap fact (some_empty (λ z. (value (bind k z e) p).truth) c d h0)
row_value stack e r (row_empty_total m c d h0) sort h = ap whole (sum_between_none (map_of e m) c d (omega (arith, ints, h0)))
row_value stack e r (row_total_of_one m x) sort h = ap whole (one_cell e m x)

pub rule_value : (stack : Region) (e : Env) → IsInRanges stack e → (t : Tree) (p : Right) → rule t ≡ Some p → (sort : Sort) → HasSort t sort → value e t ≡ value e (written p)
rule_value stack e r t p f sort h = row_value stack e r (rule_row t p f) sort h

pub leads_value : (stack : Region) (e : Env) → IsInRanges stack e → {t u : Tree} → Leads t u → (sort : Sort) → HasSort t sort → value e t ≡ value e u
leads_value stack e r (stays t f) sort h = refl
leads_value stack e r (is t u f) sort h = rule_value stack e r t (Is u) f sort h
leads_value stack e r (made t x u f m) sort h = rule_value stack e r t (Made x) f sort h ∙ leads_value stack e r m sort (rule_sort t (Made x) f sort h)
leads_value stack e r (made_plus t x y u c f m n) sort h =
    let k = rule_sort t (MadePlus x c) f sort h in
    rule_value stack e r t (MadePlus x c) f sort h
    ∙ ap (λ (v : Value). whole (v.int +ℤ c)) (leads_value stack e r m Int k.1)
    ∙ leads_value stack e r n sort (k.0, leads_sort m Int k.1, refl)
leads_value stack e r (made_modulo t x y u c f m n) sort h =
    let k = rule_sort t (MadeModulo x c) f sort h in
    rule_value stack e r t (MadeModulo x c) f sort h
    ∙ ap (λ (v : Value). whole (remainder v.int c)) (leads_value stack e r m Int k.1)
    ∙ leads_value stack e r n sort (k.0, leads_sort m Int k.1, refl)

-- another number for a bound variable, which has no range
bound_int : (stack : Region) (e : Env) → IsInRanges stack e → (k : ℕ) (z : ℤ) (v : Var) (n : ℕ) → greatest v ≡ Some n → IsUpTo n ((bind k z e).int v)
bound_int stack e r k z (var.Entry x) n h = r.range (var.Entry x) n h
bound_int stack e r k z (var.Now x) n h = r.range (var.Now x) n h
bound_int stack e r k z (var.After x j) n h = r.range (var.After x j) n h
bound_int stack e r k z (var.In j) n h = r.range (var.In j) n h
bound_int stack e r k z (var.SlotHigh j) n h = r.range (var.SlotHigh j) n h
bound_int stack e r k z (var.SlotLow j) n h = r.range (var.SlotLow j) n h
bound_int stack e r k z _ n h = absurd (cc)

pub bound_range : (stack : Region) (e : Env) → IsInRanges stack e → (k : ℕ) (z : ℤ) → IsInRanges stack (bind k z e)
bound_range stack e r k z = record { range = bound_int stack e r k z; memory = r.memory }

pub simple_value : (stack : Region) (e : Env) → IsInRanges stack e → {t u : Tree} → IsSimpleForm t u → (sort : Sort) → HasSort t sort → value e t ≡ value e u
simple_value stack e r (of_literal n) sort w = refl
simple_value stack e r (of_truth b) sort w = refl
simple_value stack e r (of_variable v) sort w = refl
simple_value stack e r (of_add x y b0 b1 t p0 p1 m) sort w = (λ i. whole ((simple_value stack e r p0 Int w.1 i).int +ℤ (simple_value stack e r p1 Int w.2 i).int)) ∙ leads_value stack e r m sort (w.0, simple_sort p0 Int w.1, simple_sort p1 Int w.2)
simple_value stack e r (of_subtract x y b0 b1 t p0 p1 m) sort w = (λ i. whole ((simple_value stack e r p0 Int w.1 i).int -ℤ (simple_value stack e r p1 Int w.2 i).int)) ∙ leads_value stack e r m sort (w.0, simple_sort p0 Int w.1, simple_sort p1 Int w.2)
simple_value stack e r (of_multiply x y b0 b1 t p0 p1 m) sort w = (λ i. whole ((simple_value stack e r p0 Int w.1 i).int *ℤ (simple_value stack e r p1 Int w.2 i).int)) ∙ leads_value stack e r m sort (w.0, simple_sort p0 Int w.1, simple_sort p1 Int w.2)
simple_value stack e r (of_divide x y b0 b1 t p0 p1 m) sort w = (λ i. whole (quotient (simple_value stack e r p0 Int w.1 i).int (simple_value stack e r p1 Int w.2 i).int)) ∙ leads_value stack e r m sort (w.0, simple_sort p0 Int w.1, simple_sort p1 Int w.2)
simple_value stack e r (of_remainder x y b0 b1 t p0 p1 m) sort w = (λ i. whole (remainder (simple_value stack e r p0 Int w.1 i).int (simple_value stack e r p1 Int w.2 i).int)) ∙ leads_value stack e r m sort (w.0, simple_sort p0 Int w.1, simple_sort p1 Int w.2)
simple_value stack e r (of_byte_and x y b0 b1 t p0 p1 m) sort w = (λ i. whole (byte_and (simple_value stack e r p0 Int w.1 i).int (simple_value stack e r p1 Int w.2 i).int)) ∙ leads_value stack e r m sort (w.0, simple_sort p0 Int w.1, simple_sort p1 Int w.2)
simple_value stack e r (of_byte_or x y b0 b1 t p0 p1 m) sort w = (λ i. whole (byte_or (simple_value stack e r p0 Int w.1 i).int (simple_value stack e r p1 Int w.2 i).int)) ∙ leads_value stack e r m sort (w.0, simple_sort p0 Int w.1, simple_sort p1 Int w.2)
simple_value stack e r (of_byte_xor x y b0 b1 t p0 p1 m) sort w = (λ i. whole (byte_xor (simple_value stack e r p0 Int w.1 i).int (simple_value stack e r p1 Int w.2 i).int)) ∙ leads_value stack e r m sort (w.0, simple_sort p0 Int w.1, simple_sort p1 Int w.2)
simple_value stack e r (of_parity x b0 t p0 m) sort w = (λ i. whole (parity (simple_value stack e r p0 Int w.1 i).int)) ∙ leads_value stack e r m sort (w.0, simple_sort p0 Int w.1)
simple_value stack e r (of_bit k x b0 t p0 m) sort w = (λ i. whole (bit k (simple_value stack e r p0 Int w.2 i).int)) ∙ leads_value stack e r m sort (w.0, w.1, simple_sort p0 Int w.2)
simple_value stack e r (of_psw x y z u v b0 b1 b2 b3 b4 t p0 p1 p2 p3 p4 m) sort w = (λ i. whole (psw (simple_value stack e r p0 Int w.1 i).int (simple_value stack e r p1 Int w.2 i).int (simple_value stack e r p2 Int w.3 i).int (simple_value stack e r p3 Int w.4 i).int (simple_value stack e r p4 Int w.5 i).int)) ∙ leads_value stack e r m sort (w.0, simple_sort p0 Int w.1, simple_sort p1 Int w.2, simple_sort p2 Int w.3, simple_sort p3 Int w.4, simple_sort p4 Int w.5)
simple_value stack e r (of_if x y z b0 b1 b2 t p0 p1 p2 m) sort w = (λ i. whole (if (simple_value stack e r p0 Formula w.1 i).truth then (simple_value stack e r p1 Int w.2 i).int else (simple_value stack e r p2 Int w.3 i).int)) ∙ leads_value stack e r m sort (w.0, simple_sort p0 Formula w.1, simple_sort p1 Int w.2, simple_sort p2 Int w.3)
simple_value stack e r (of_element x y b0 b1 t p0 p1 m) sort w = (λ i. whole ((simple_value stack e r p0 Memory w.1 i).map (simple_value stack e r p1 Int w.2 i).int)) ∙ leads_value stack e r m sort (w.0, simple_sort p0 Memory w.1, simple_sort p1 Int w.2)
simple_value stack e r (of_update x y z b0 b1 b2 t p0 p1 p2 m) sort w = (λ i. cells (updated (simple_value stack e r p0 Memory w.1 i).map (simple_value stack e r p1 Int w.2 i).int (simple_value stack e r p2 Int w.3 i).int)) ∙ leads_value stack e r m sort (w.0, simple_sort p0 Memory w.1, simple_sort p1 Int w.2, simple_sort p2 Int w.3)
simple_value stack e r (of_total x y z b0 b1 b2 t p0 p1 p2 m) sort w = (λ i. whole (sum_between (simple_value stack e r p0 Memory w.1 i).map (simple_value stack e r p1 Int w.2 i).int (simple_value stack e r p2 Int w.3 i).int)) ∙ leads_value stack e r m sort (w.0, simple_sort p0 Memory w.1, simple_sort p1 Int w.2, simple_sort p2 Int w.3)
simple_value stack e r (of_equal x y b0 b1 t p0 p1 m) sort w = (λ i. fact (int_eq (simple_value stack e r p0 Int w.1 i).int (simple_value stack e r p1 Int w.2 i).int)) ∙ leads_value stack e r m sort (w.0, simple_sort p0 Int w.1, simple_sort p1 Int w.2)
simple_value stack e r (of_less x y b0 b1 t p0 p1 m) sort w = (λ i. fact (int_lt (simple_value stack e r p0 Int w.1 i).int (simple_value stack e r p1 Int w.2 i).int)) ∙ leads_value stack e r m sort (w.0, simple_sort p0 Int w.1, simple_sort p1 Int w.2)
simple_value stack e r (of_less_or_equal x y b0 b1 t p0 p1 m) sort w = (λ i. fact (int_le (simple_value stack e r p0 Int w.1 i).int (simple_value stack e r p1 Int w.2 i).int)) ∙ leads_value stack e r m sort (w.0, simple_sort p0 Int w.1, simple_sort p1 Int w.2)
simple_value stack e r (of_not x b0 t p0 m) sort w = (λ i. fact (not (simple_value stack e r p0 Formula w.1 i).truth)) ∙ leads_value stack e r m sort (w.0, simple_sort p0 Formula w.1)
simple_value stack e r (of_and x y b0 b1 t p0 p1 m) sort w = (λ i. fact ((simple_value stack e r p0 Formula w.1 i).truth && (simple_value stack e r p1 Formula w.2 i).truth)) ∙ leads_value stack e r m sort (w.0, simple_sort p0 Formula w.1, simple_sort p1 Formula w.2)
simple_value stack e r (of_or x y b0 b1 t p0 p1 m) sort w = (λ i. fact ((simple_value stack e r p0 Formula w.1 i).truth || (simple_value stack e r p1 Formula w.2 i).truth)) ∙ leads_value stack e r m sort (w.0, simple_sort p0 Formula w.1, simple_sort p1 Formula w.2)
simple_value stack e r (of_implies x y b0 b1 t p0 p1 m) sort w = (λ i. fact (not (simple_value stack e r p0 Formula w.1 i).truth || (simple_value stack e r p1 Formula w.2 i).truth)) ∙ leads_value stack e r m sort (w.0, simple_sort p0 Formula w.1, simple_sort p1 Formula w.2)
simple_value stack e r (of_iff x y b0 b1 t p0 p1 m) sort w = (λ i. fact (if (simple_value stack e r p0 Formula w.1 i).truth then (simple_value stack e r p1 Formula w.2 i).truth else not (simple_value stack e r p1 Formula w.2 i).truth)) ∙ leads_value stack e r m sort (w.0, simple_sort p0 Formula w.1, simple_sort p1 Formula w.2)
simple_value stack e r (of_for_all k x y z b0 b1 b2 t p0 p1 p2 m) sort w = (λ i. fact (all_between (λ n. (simple_value stack (bind k n e) (bound_range stack e r k n) p2 Formula w.4 i).truth) (simple_value stack e r p0 Int w.2 i).int (simple_value stack e r p1 Int w.3 i).int)) ∙ leads_value stack e r m sort (w.0, w.1, simple_sort p0 Int w.2, simple_sort p1 Int w.3, simple_sort p2 Formula w.4)
simple_value stack e r (of_for_some k x y z b0 b1 b2 t p0 p1 p2 m) sort w = (λ i. fact (some_between (λ n. (simple_value stack (bind k n e) (bound_range stack e r k n) p2 Formula w.4 i).truth) (simple_value stack e r p0 Int w.2 i).int (simple_value stack e r p1 Int w.3 i).int)) ∙ leads_value stack e r m sort (w.0, w.1, simple_sort p0 Int w.2, simple_sort p1 Int w.3, simple_sort p2 Formula w.4)
