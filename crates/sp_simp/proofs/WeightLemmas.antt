-- Each rule lowers the weight, so that every tree has a simple form.
use Rattle.std.proofs.Common.{ℕ, zero, suc, ◌+◌, ◌*◌, ◌≤◌, ◌<◌, ◌≡◌, ◌⊎◌, inl, inr, refl, sym, ◌∙◌, ap, subst, arith, Bool, true, false, ◌&&◌, not, ℤ, pos, Option, Some, None}
use Rattle.std.specs.Prelude.{if◌then◌else◌, int_lt, int_le}
use Rattle.std.specs.Ordering.{int_eq}
use Rattle.std.proofs.lemmas.Bool.{and_parts, and_from}
use Rattle.sp_base.specs.Integers.{remainder}
use Rattle.sp_term.specs.Tree.{Tree, Literal, Truth, Variable, Add, Subtract, Multiply, Divide, Remainder, ByteAnd, ByteOr, ByteXor, Parity, Bit, Psw, If, Element, Update, Total, Equal, Less, LessOrEqual, Not, And, Or, Implies, Iff, ForAll, ForSome}
use Rattle.sp_term.specs.Intervals.{literal}
use Rattle.sp_simp.specs.declared.relation.Relation.{Relation}
use Rattle.sp_simp.specs.declared.relation.Relation.TheVariants as relation
use Rattle.sp_simp.specs.Rules.{Right, Is, Made, MadePlus, MadeModulo, rule, compared, base, based, offset, is_beyond}
use Rattle.sp_simp.specs.Simple.{Leads, stays, is, made, made_plus, made_modulo, IsSimpleForm, of_literal, of_truth, of_variable, of_add, of_subtract, of_multiply, of_divide, of_remainder, of_byte_and, of_byte_or, of_byte_xor, of_parity, of_bit, of_psw, of_if, of_element, of_update, of_total, of_equal, of_less, of_less_or_equal, of_not, of_and, of_or, of_implies, of_iff, of_for_all, of_for_some}
use Rattle.sp_simp.specs.code.Rows.{Row, IsSum, row_fold_add, row_fold_subtract, row_fold_multiply, row_fold_divide, row_fold_remainder, row_fold_byte_and, row_fold_byte_or, row_fold_byte_xor, row_fold_parity, row_fold_bit, row_fold_flags, row_same_difference, row_literal_last, row_factor_first, row_plus_zero, row_minus_literal, row_join_offsets, row_left_offset_out, row_right_offset_out, row_whole_again, row_zero_times, row_one_times, row_join_factors, row_factor_in, row_over_one, row_small_quotient, row_quotient_of_multiple, row_modulo_one, row_small_remainder, row_remainder_twice, row_remainder_in_sum, row_offset_reduced, row_remainder_of_multiple, row_and_itself, row_or_itself, row_xor_itself, row_zero_and, row_and_zero, row_full_and, row_and_full, row_zero_or, row_or_zero, row_zero_xor, row_xor_zero, row_bit_seven, row_bit_six, row_bit_four, row_bit_two, row_bit_zero, row_bit_one, row_bit_three, row_bit_five, row_if_true, row_if_false, row_if_same, row_element_same, row_element_other, row_update_again, row_compare_same, row_compare_intervals, row_compare_left_offset, row_compare_right_offset, row_compare_offsets, row_compare_bases, row_equal_turned, row_choice_first, row_choice_second, row_choice_neither, row_not_truth, row_not_not, row_not_less_or_equal, row_not_less, row_true_and, row_and_true, row_false_and, row_and_false, row_and_same, row_false_or, row_or_false, row_true_or, row_or_true, row_or_same, row_true_implies, row_false_implies, row_implies_true, row_implies_false, row_implies_same, row_true_iff, row_iff_true, row_false_iff, row_iff_false, row_iff_same, row_for_all_true, row_for_all_empty, row_for_some_false, row_for_some_empty, row_empty_total, row_total_of_one}
use Rattle.sp_simp.specs.code.Weight.{weight, sum_weight, product_weight, beyond, turned, Falls}
use Rattle.sp_simp.proofs.RootLemmas.{offset_of, literal_of, int_one}
use Rattle.sp_simp.proofs.RowLemmas.{rule_row}
use Rattle.sp_simp.proofs.RemainderLemmas.{remainder_within}

sum_some : (o : Option ℤ) (x y : ℕ) → 1 ≤ x → 1 ≤ sum_weight o x y
sum_some (Some c) x y h = omega arith
sum_some None x y h = omega arith

product_some : (o : Option ℤ) (x y : ℕ) → 1 ≤ y → 1 ≤ product_weight o x y
product_some (Some c) x y h = omega arith
product_some None x y h = omega arith

pub some_weight : (t : Tree) → 1 ≤ weight t
unfolding weight
some_weight (Literal n) = omega arith
some_weight (Truth b) = omega arith
some_weight (Variable v) = omega arith
some_weight (Add x y) = sum_some (literal y) (weight x) (weight y) (some_weight x)
some_weight (Multiply x y) = product_some (literal x) (weight x) (weight y) (some_weight y)
some_weight (Subtract x y) = omega (arith, some_weight x)
some_weight (Divide x y) = omega (arith, some_weight x)
some_weight (Remainder x y) = omega (arith, some_weight x)
some_weight (ByteAnd x y) = omega arith
some_weight (ByteOr x y) = omega arith
some_weight (ByteXor x y) = omega arith
some_weight (Parity x) = omega arith
some_weight (Bit k x) = omega arith
some_weight (Psw x y z u v) = omega arith
some_weight (If x y z) = omega arith
some_weight (Element x y) = omega arith
some_weight (Update x y z) = omega arith
some_weight (Total x y z) = omega arith
some_weight (Equal x y) = omega arith
some_weight (Less x y) = omega arith
some_weight (LessOrEqual x y) = omega arith
some_weight (Not x) = omega arith
some_weight (And x y) = omega arith
some_weight (Or x y) = omega arith
some_weight (Implies x y) = omega arith
some_weight (Iff x y) = omega arith
some_weight (ForAll k x y z) = omega arith
some_weight (ForSome k x y z) = omega arith

-- ---- bounds

sum_at_most : (o : Option ℤ) (x y : ℕ) → 1 ≤ x → 1 ≤ y → sum_weight o x y ≤ 2 * x + 2 * y
sum_at_most (Some c) x y h g = omega arith
sum_at_most None x y h g = omega arith

sum_most : (x y : Tree) → weight (Add x y) ≤ 2 * weight x + 2 * weight y
unfolding weight
sum_most x y = sum_at_most (literal y) (weight x) (weight y) (some_weight x) (some_weight y)

sum_exact : (x y : Tree) → literal y ≡ None → weight (Add x y) ≡ 2 * weight x + 2 * weight y
unfolding weight
sum_exact x y h = ap (λ o. sum_weight o (weight x) (weight y)) h

sum_least_at : (o : Option ℤ) (x y : ℕ) → 1 ≤ x → x + 1 ≤ sum_weight o x y
sum_least_at (Some c) x y h = omega arith
sum_least_at None x y h = omega arith

sum_least : (x y : Tree) → weight x + 1 ≤ weight (Add x y)
unfolding weight
sum_least x y = sum_least_at (literal y) (weight x) (weight y) (some_weight x)

sum_grows_at : (o : Option ℤ) (a b y : ℕ) → 2 * b + 2 ≤ a → sum_weight o b y + 2 ≤ sum_weight o a y
sum_grows_at (Some c) a b y h = omega arith
sum_grows_at None a b y h = omega arith

sum_grows : (x z y : Tree) → 2 * weight z + 2 ≤ weight x → weight (Add z y) + 2 ≤ weight (Add x y)
unfolding weight
sum_grows x z y h = sum_grows_at (literal y) (weight x) (weight z) (weight y) h

product_exact : (x y : Tree) → literal x ≡ None → weight (Multiply x y) ≡ 2 * weight x + 2 * weight y
unfolding weight
product_exact x y h = ap (λ o. product_weight o (weight x) (weight y)) h

beyond_at_most : (a : Option (Tree × ℤ)) (b : Option ℤ) → beyond a b ≤ 1
beyond_at_most (Some p) (Some d) = by (is_beyond p.1 d)
  where
    by : (b : Bool) → (if b then 1 else 0) ≤ 1
    by true = omega arith
    by false = omega arith
beyond_at_most (Some p) None = omega arith
beyond_at_most None _ = omega arith

remainder_most : (x y : Tree) → weight (Remainder x y) ≤ 2 * weight x + 2 * weight y + 1
unfolding weight
remainder_most x y = omega (arith, beyond_at_most (offset x) (literal y))

remainder_least : (x y : Tree) → 2 * weight x + 2 * weight y ≤ weight (Remainder x y)
unfolding weight
remainder_least x y = omega arith

turned_at_most : (a b : Option ℤ) → turned a b ≤ 1
turned_at_most (Some c) None = omega arith
turned_at_most (Some c) (Some d) = omega arith
turned_at_most None _ = omega arith

turned_known : (a : Option ℤ) (d : ℤ) → turned a (Some d) ≡ 0
turned_known (Some c) d = refl
turned_known None d = refl

turned_none : (x : Tree) (b : Option ℤ) → literal x ≡ None → turned (literal x) b ≡ 0
turned_none x b h = ap (λ a. turned a b) h

compared_least : (r : Relation) (x y : Tree) → 1 + weight x + weight y ≤ weight (compared r x y)
unfolding weight
compared_least relation.Equal x y = omega arith
compared_least relation.Less x y = omega arith
compared_least relation.LessOrEqual x y = omega arith

compared_most : (r : Relation) (x y : Tree) → weight (compared r x y) ≤ turned (literal x) (literal y) + 1 + weight x + weight y
unfolding weight
compared_most relation.Equal x y = omega arith
compared_most relation.Less x y = omega arith
compared_most relation.LessOrEqual x y = omega arith

-- a comparison of a lighter term with a literal
left_falls : (r : Relation) (x : Tree) (c d e : ℤ) → weight (compared r x (Literal e)) < weight (compared r (Add x (Literal c)) (Literal d))
unfolding weight
left_falls r x c d e = omega (arith, compared_most r x (Literal e), turned_known (literal x) e, compared_least r (Add x (Literal c)) (Literal d))

right_falls : (r : Relation) (x : Tree) (c d e : ℤ) → weight (compared r (Literal e) x) < weight (compared r (Literal d) (Add x (Literal c)))
unfolding weight
right_falls relation.Equal x c d e = omega (arith, turned_at_most (Some e) (literal x))
right_falls relation.Less x c d e = omega arith
right_falls relation.LessOrEqual x c d e = omega arith

-- ---- bases

sum_weighs : (t : Tree) (p : Tree × ℤ) → offset t ≡ Some p → weight t ≡ weight p.0 + 1
unfolding weight
sum_weighs t p h = ap weight (offset_of t p h)

offsets_fall : (r : Relation) (x y : Tree) → IsSum x y → weight (compared r (Literal (base x).1) (Literal (base y).1)) < weight (compared r x y)
unfolding weight
offsets_fall r x y (inl s) = omega (arith, sum_weighs x s.0 s.1, some_weight s.0.0, some_weight y, compared_least r x y, compared_most r (Literal (base x).1) (Literal (base y).1))
offsets_fall r x y (inr s) = omega (arith, sum_weighs y s.0 s.1, some_weight s.0.0, some_weight x, compared_least r x y, compared_most r (Literal (base x).1) (Literal (base y).1))

-- what is known of a base that is not a sum's, where its offset is not 0: it is the literal 0, of a literal
literal_base : (t : Tree) (o : Option (Tree × ℤ)) (c : Option ℤ) → offset t ≡ o → literal t ≡ c → int_eq (based t o c).1 (pos 0) ≡ false →
    ((p : Tree × ℤ) × (offset t ≡ Some p) × (based t o c ≡ p)) ⊎ ((n : ℤ) × (literal t ≡ Some n) × ((based t o c).0 ≡ Literal (pos 0)))
literal_base t (Some p) c h g ne = inl (p, h, refl)
literal_base t None (Some n) h g ne = inr (n, g, refl)
literal_base t None None h g ne = absurd (cc)

sum_no_literal : (t : Tree) (p : Tree × ℤ) → offset t ≡ Some p → literal t ≡ None
sum_no_literal t p h = ap literal (offset_of t p h)

both_fall : (r : Relation) (x y a b : Tree) → weight x ≡ weight a + 1 → weight y ≡ weight b + 1 → weight (compared r a b) < weight (compared r x y)
both_fall r x y a b h g = omega (arith, compared_least r x y, compared_most r a b, turned_at_most (literal a) (literal b))

left_base_falls : (r : Relation) (x y a : Tree) (n : ℤ) → weight x ≡ weight a + 1 → literal y ≡ Some n → weight (compared r a (Literal (pos 0))) < weight (compared r x y)
unfolding weight
left_base_falls r x y a n h g = omega (arith, compared_least r x y, compared_most r a (Literal (pos 0)), turned_known (literal a) (pos 0), some_weight y)

right_base_falls : (r : Relation) (x y b : Tree) (n : ℤ) → literal x ≡ Some n → literal y ≡ None → weight y ≡ weight b + 1 → weight (compared r (Literal (pos 0)) b) < weight (compared r x y)
unfolding weight
right_base_falls relation.Equal x y b n h g k =
    let one : turned (literal x) (literal y) ≡ 1 = (λ i. turned (h i) (g i)) in
    omega (arith, turned_at_most (Some (pos 0)) (literal b), some_weight x)
right_base_falls relation.Less x y b n h g k = omega (arith, some_weight x)
right_base_falls relation.LessOrEqual x y b n h g k = omega (arith, some_weight x)

offset_zero : (a b : ℤ) → int_eq a b ≡ true → int_eq a (pos 0) ≡ false → int_eq b (pos 0) ≡ false
offset_zero a b h g = subst (λ w. int_eq w (pos 0) ≡ false) (int_one a b h) g

no_sum : (x y : Tree) (m n : ℤ) → literal x ≡ Some m → literal y ≡ Some n → IsSum x y → ⊥
no_sum x y m n h g (inl s) = let k : None ≡ Some m = sym (sum_no_literal x s.0 s.1) ∙ h in cc
no_sum x y m n h g (inr s) = let k : None ≡ Some n = sym (sum_no_literal y s.0 s.1) ∙ g in cc

bases_fall : (r : Relation) (x y : Tree) → IsSum x y → int_eq (base x).1 (base y).1 ≡ true → int_eq (base x).1 (pos 0) ≡ false → weight (compared r (base x).0 (base y).0) < weight (compared r x y)
bases_fall r x y sum same ne = elim (literal_base x (offset x) (literal x) refl refl ne) [
  | inl p ↦ elim (literal_base y (offset y) (literal y) refl refl (offset_zero (base x).1 (base y).1 same ne)) [
    | inl q ↦ both_fall r x y (base x).0 (base y).0 (subst (λ w. weight x ≡ weight w.0 + 1) (sym p.2) (sum_weighs x p.0 p.1)) (subst (λ w. weight y ≡ weight w.0 + 1) (sym q.2) (sum_weighs y q.0 q.1))
    | inr q ↦ subst (λ w. weight (compared r (base x).0 w) < weight (compared r x y)) (sym q.2) (left_base_falls r x y (base x).0 q.0 (subst (λ w. weight x ≡ weight w.0 + 1) (sym p.2) (sum_weighs x p.0 p.1)) q.1)
  ]
  | inr p ↦ elim (literal_base y (offset y) (literal y) refl refl (offset_zero (base x).1 (base y).1 same ne)) [
    | inl q ↦ subst (λ w. weight (compared r w (base y).0) < weight (compared r x y)) (sym p.2) (right_base_falls r x y (base y).0 p.0 p.1 (sum_no_literal y q.0 q.1) (subst (λ w. weight y ≡ weight w.0 + 1) (sym q.2) (sum_weighs y q.0 q.1)))
    | inr q ↦ absurd (no_sum x y p.0 q.0 p.1 q.1 sum)
  ]
]

-- ---- remainders

within_again : (c d : ℤ) → is_beyond c d ≡ true → is_beyond (remainder c d) d ≡ false
within_again c d h =
    let a = and_parts (int_lt (pos 0) d) (not (int_le (pos 0) c && int_lt c d)) h in
    let w = remainder_within c d a.0 in
    let both = and_from (int_le (pos 0) (remainder c d)) (int_lt (remainder c d) d) w.0 w.1 in
    (λ i. a.0 i && not (both i))

abbrev one_if : Bool → ℕ
one_if b = if b then 1 else 0

beyond_lighter : (x : Tree) (c d : ℤ) → is_beyond c d ≡ true → weight (Remainder (Add x (Literal (remainder c d))) (Literal d)) + 1 ≡ weight (Remainder (Add x (Literal c)) (Literal d))
unfolding weight
beyond_lighter x c d h =
    let less : beyond (offset (Add x (Literal (remainder c d)))) (literal (Literal d)) ≡ 0 = ap one_if (within_again c d h) in
    let more : beyond (offset (Add x (Literal c))) (literal (Literal d)) ≡ 1 = ap one_if h in
    omega arith

-- a multiple and another term weigh more than the two
sum_multiple_at : (o : Option ℤ) (a b : ℕ) → 1 ≤ a → 1 ≤ b → (o ≡ None) ⊎ (b ≡ 1) → a + b + 1 ≤ sum_weight o (2 * a) b
sum_multiple_at (Some c) a b h g (inl e) = absurd (cc)
sum_multiple_at (Some c) a b h g (inr e) = omega arith
sum_multiple_at None a b h g e = omega arith

literal_weighs : (x : Tree) (o : Option ℤ) → literal x ≡ o → (o ≡ None) ⊎ (weight x ≡ 1)
unfolding weight
literal_weighs x (Some c) h = inr (ap weight (literal_of x c h))
literal_weighs x None h = inl refl

sum_multiple : (c : ℤ) (y x : Tree) → weight y + weight x + 1 ≤ weight (Add (Multiply (Literal c) y) x)
unfolding weight
sum_multiple c y x = sum_multiple_at (literal x) (weight y) (weight x) (some_weight y) (some_weight x) (literal_weighs x (literal x) refl)

-- ---- the rules

row_falls : {t : Tree} {p : Right} → Row t p → Falls p (weight t)
unfolding weight
row_falls (row_fold_add c d) = omega arith
row_falls (row_fold_subtract c d) = omega arith
row_falls (row_fold_multiply c d) = omega arith
row_falls (row_fold_divide c d) = omega arith
row_falls (row_fold_remainder c d) = omega arith
row_falls (row_fold_byte_and c d) = omega arith
row_falls (row_fold_byte_or c d) = omega arith
row_falls (row_fold_byte_xor c d) = omega arith
row_falls (row_fold_parity c) = omega arith
row_falls (row_fold_bit k c) = omega arith
row_falls (row_fold_flags s z ac p cy) = omega arith
row_falls (row_same_difference x) = omega (arith, some_weight x)
row_falls (row_literal_last c x h0) = omega (arith, sum_exact (Literal c) x h0, some_weight x)
row_falls (row_factor_first x c h0) = omega (arith, product_exact x (Literal c) h0, some_weight x)
row_falls (row_plus_zero x) = omega (arith, some_weight x)
row_falls (row_minus_literal x c) = omega (arith, some_weight x)
row_falls (row_join_offsets x c d) = omega (arith, some_weight x)
row_falls (row_left_offset_out x y c h0) = omega (arith, sum_exact (Add x (Literal c)) y h0, sum_exact x y h0, some_weight x, some_weight y)
row_falls (row_right_offset_out x y c) = omega (arith, sum_most x y, some_weight x, some_weight y)
row_falls (row_whole_again x c h0) = omega (arith, some_weight x)
row_falls (row_zero_times x) = omega (arith, some_weight x)
row_falls (row_one_times x) = omega (arith, some_weight x)
row_falls (row_join_factors c d x) = omega (arith, some_weight x)
row_falls (row_factor_in c d x) = omega (arith, some_weight x)
row_falls (row_over_one x) = omega (arith, some_weight x)
row_falls (row_small_quotient x c h0) = omega (arith, some_weight x)
row_falls (row_quotient_of_multiple c y x h0) = omega (arith, some_weight y, some_weight x, sum_multiple c y x)
row_falls (row_modulo_one x) = omega (arith, some_weight x)
row_falls (row_small_remainder x c h0) = omega (arith, some_weight x)
row_falls (row_remainder_twice x c d h0) = omega (arith, some_weight x, remainder_most x (Literal d), remainder_least (Remainder x (Literal c)) (Literal d), remainder_least x (Literal c))
row_falls (row_remainder_in_sum x y c d h0) = (
    let a = sum_grows (Remainder x (Literal c)) x y (remainder_least x (Literal c)) in
    let b = remainder_least (Add (Remainder x (Literal c)) y) (Literal d) in
    let e = remainder_most (Add x y) (Literal d) in
    (omega arith, omega arith, omega arith))
row_falls (row_offset_reduced x c d h0) = (
    let a = beyond_lighter x c d h0 in
    let b = remainder_least (Add x (Literal (remainder c d))) (Literal d) in
    (omega arith, omega arith, omega arith))
row_falls (row_remainder_of_multiple c y x h0) = omega (arith, some_weight y, some_weight x, sum_multiple c y x)
row_falls (row_and_itself x) = omega (arith, some_weight x, remainder_most x (Literal (pos 256)))
row_falls (row_or_itself x) = omega (arith, some_weight x, remainder_most x (Literal (pos 256)))
row_falls (row_xor_itself x) = omega (arith, some_weight x)
row_falls (row_zero_and x) = omega (arith, some_weight x)
row_falls (row_and_zero x) = omega (arith, some_weight x)
row_falls (row_full_and x) = omega (arith, some_weight x, remainder_most x (Literal (pos 256)))
row_falls (row_and_full x) = omega (arith, some_weight x, remainder_most x (Literal (pos 256)))
row_falls (row_zero_or x) = omega (arith, some_weight x, remainder_most x (Literal (pos 256)))
row_falls (row_or_zero x) = omega (arith, some_weight x, remainder_most x (Literal (pos 256)))
row_falls (row_zero_xor x) = omega (arith, some_weight x, remainder_most x (Literal (pos 256)))
row_falls (row_xor_zero x) = omega (arith, some_weight x, remainder_most x (Literal (pos 256)))
row_falls (row_bit_seven s z ac p cy h0) = omega (arith, some_weight s, some_weight z, some_weight ac, some_weight p, some_weight cy)
row_falls (row_bit_six s z ac p cy h0) = omega (arith, some_weight s, some_weight z, some_weight ac, some_weight p, some_weight cy)
row_falls (row_bit_four s z ac p cy h0) = omega (arith, some_weight s, some_weight z, some_weight ac, some_weight p, some_weight cy)
row_falls (row_bit_two s z ac p cy h0) = omega (arith, some_weight s, some_weight z, some_weight ac, some_weight p, some_weight cy)
row_falls (row_bit_zero s z ac p cy h0) = omega (arith, some_weight s, some_weight z, some_weight ac, some_weight p, some_weight cy)
row_falls (row_bit_one s z ac p cy) = omega (arith, some_weight s, some_weight z, some_weight ac, some_weight p, some_weight cy)
row_falls (row_bit_three s z ac p cy) = omega (arith, some_weight s, some_weight z, some_weight ac, some_weight p, some_weight cy)
row_falls (row_bit_five s z ac p cy) = omega (arith, some_weight s, some_weight z, some_weight ac, some_weight p, some_weight cy)
row_falls (row_if_true x y) = omega (arith, some_weight x, some_weight y)
row_falls (row_if_false x y) = omega (arith, some_weight x, some_weight y)
row_falls (row_if_same p x) = omega (arith, some_weight p, some_weight x)
row_falls (row_element_same m x v) = omega (arith, some_weight m, some_weight x, some_weight v)
row_falls (row_element_other m x v y h0) = omega (arith, some_weight m, some_weight x, some_weight v, some_weight y)
row_falls (row_update_again m x v w) = omega (arith, some_weight m, some_weight x, some_weight v, some_weight w)
row_falls (row_compare_same r x) = omega (arith, compared_least r x x, some_weight x)
row_falls (row_compare_intervals r x y i j b h0 h1 h2) = omega (arith, compared_least r x y, some_weight x, some_weight y)
row_falls (row_compare_left_offset r x c d) = left_falls r x c d _
row_falls (row_compare_right_offset r x c d) = right_falls r x c d _
row_falls (row_compare_offsets r x y h0 h1) = offsets_fall r x y h0
row_falls (row_compare_bases r x y h0 h1 h2) = bases_fall r x y h0 h1 h2
row_falls (row_equal_turned c x h0) = omega (arith, turned_known (literal x) c, ap (turned (Some c)) h0)
row_falls (row_choice_first p c d h0) = omega (arith, some_weight p)
row_falls (row_choice_second p c d h0) = omega (arith, some_weight p)
row_falls (row_choice_neither p c d e h0 h1) = omega (arith, some_weight p)
row_falls (row_not_truth b) = omega arith
row_falls (row_not_not p) = omega (arith, some_weight p)
row_falls (row_not_less_or_equal x y) = omega (arith, some_weight x, some_weight y)
row_falls (row_not_less x y) = omega (arith, some_weight x, some_weight y)
row_falls (row_true_and p) = omega (arith, some_weight p)
row_falls (row_and_true p) = omega (arith, some_weight p)
row_falls (row_false_and p) = omega (arith, some_weight p)
row_falls (row_and_false p) = omega (arith, some_weight p)
row_falls (row_and_same p) = omega (arith, some_weight p)
row_falls (row_false_or p) = omega (arith, some_weight p)
row_falls (row_or_false p) = omega (arith, some_weight p)
row_falls (row_true_or p) = omega (arith, some_weight p)
row_falls (row_or_true p) = omega (arith, some_weight p)
row_falls (row_or_same p) = omega (arith, some_weight p)
row_falls (row_true_implies p) = omega (arith, some_weight p)
row_falls (row_false_implies p) = omega (arith, some_weight p)
row_falls (row_implies_true p) = omega (arith, some_weight p)
row_falls (row_implies_false p) = omega (arith, some_weight p)
row_falls (row_implies_same p) = omega (arith, some_weight p)
row_falls (row_true_iff p) = omega (arith, some_weight p)
row_falls (row_iff_true p) = omega (arith, some_weight p)
row_falls (row_false_iff p) = omega (arith, some_weight p)
row_falls (row_iff_false p) = omega (arith, some_weight p)
row_falls (row_iff_same p) = omega (arith, some_weight p)
row_falls (row_for_all_true k x y) = omega (arith, some_weight x, some_weight y)
row_falls (row_for_all_empty k c d p h0) = omega (arith, some_weight p)
row_falls (row_for_some_false k x y) = omega (arith, some_weight x, some_weight y)
row_falls (row_for_some_empty k c d p h0) = omega (arith, some_weight p)
row_falls (row_empty_total m c d h0) = omega (arith, some_weight m)
row_falls (row_total_of_one m x) = omega (arith, some_weight m, some_weight x)

pub rule_falls : (t : Tree) (p : Right) → rule t ≡ Some p → Falls p (weight t)
rule_falls t p e = row_falls (rule_row t p e)

-- ---- what the rules lead to

abbrev NoHeavier : Tree → Tree → Type 0
NoHeavier r t = (r ≡ t) ⊎ (weight r < weight t)

at_most : (r t : Tree) → NoHeavier r t → weight r ≤ weight t
at_most r t (inl e) = let k = ap weight e in omega arith
at_most r t (inr l) = omega arith

lighter : (r t : Tree) (n : ℕ) → NoHeavier r t → weight t < n → weight r < n
lighter r t n h l = omega (arith, at_most r t h)

plus_lighter : (s t : Tree) (c : ℤ) (n : ℕ) → NoHeavier s t → weight t + 1 < n → weight (Add s (Literal c)) < n
unfolding weight
plus_lighter s t c n h l = omega (arith, at_most s t h)

modulo_lighter : (s t : Tree) (c : ℤ) (n : ℕ) → NoHeavier s t → Falls (MadeModulo t c) n → weight (Remainder s (Literal c)) < n
unfolding weight
modulo_lighter s t c n (inl e) f = subst (λ w. weight (Remainder w (Literal c)) < n) (sym e) f.1
modulo_lighter s t c n (inr l) f = omega (arith, remainder_most s (Literal c), f.2)

pub leads_light : {t r : Tree} → Leads t r → NoHeavier r t
leads_light (stays t e) = inl refl
leads_light (is t r e) = inr (rule_falls t (Is r) e)
leads_light (made t x r e m) = inr (lighter r x (weight t) (leads_light m) (rule_falls t (Made x) e))
leads_light (made_plus t x y r c e m n) = inr (lighter r (Add y (Literal c)) (weight t) (leads_light n) (plus_lighter y x c (weight t) (leads_light m) (rule_falls t (MadePlus x c) e)))
leads_light (made_modulo t x y r c e m n) = inr (lighter r (Remainder y (Literal c)) (weight t) (leads_light n) (modulo_lighter y x c (weight t) (leads_light m) (rule_falls t (MadeModulo x c) e)))

pub made_falls : (t x : Tree) → rule t ≡ Some (Made x) → weight x < weight t
made_falls t x e = rule_falls t (Made x) e

pub plus_falls : (t x : Tree) (c : ℤ) → rule t ≡ Some (MadePlus x c) → weight x < weight t
plus_falls t x c e = omega (arith, rule_falls t (MadePlus x c) e)

pub modulo_falls : (t x : Tree) (c : ℤ) → rule t ≡ Some (MadeModulo x c) → weight x < weight t
modulo_falls t x c e = (rule_falls t (MadeModulo x c) e).0

pub plus_then_falls : (t x s : Tree) (c : ℤ) → rule t ≡ Some (MadePlus x c) → Leads x s → weight (Add s (Literal c)) < weight t
plus_then_falls t x s c e m = plus_lighter s x c (weight t) (leads_light m) (rule_falls t (MadePlus x c) e)

pub modulo_then_falls : (t x s : Tree) (c : ℤ) → rule t ≡ Some (MadeModulo x c) → Leads x s → weight (Remainder s (Literal c)) < weight t
modulo_then_falls t x s c e m = modulo_lighter s x c (weight t) (leads_light m) (rule_falls t (MadeModulo x c) e)

-- ---- there is a simple form

leads_by : (n : ℕ) → ((t : Tree) → weight t < n → (r : Tree) × Leads t r) → (t : Tree) → weight t < suc n → (o : Option Right) → rule t ≡ o → (r : Tree) × Leads t r
leads_by n again t h None e = (t, stays t e)
leads_by n again t h (Some (Is r)) e = (r, is t r e)
leads_by n again t h (Some (Made x)) e = let m = again x (omega (arith, made_falls t x e)) in (m.0, made t x m.0 e m.1)
leads_by n again t h (Some (MadePlus x c)) e =
    let m = again x (omega (arith, plus_falls t x c e)) in
    let k = again (Add m.0 (Literal c)) (omega (arith, plus_then_falls t x m.0 c e m.1)) in
    (k.0, made_plus t x m.0 k.0 c e m.1 k.1)
leads_by n again t h (Some (MadeModulo x c)) e =
    let m = again x (omega (arith, modulo_falls t x c e)) in
    let k = again (Remainder m.0 (Literal c)) (omega (arith, modulo_then_falls t x m.0 c e m.1)) in
    (k.0, made_modulo t x m.0 k.0 c e m.1 k.1)

leads_within : (n : ℕ) (t : Tree) → weight t < n → (r : Tree) × Leads t r
leads_within zero t h = absurd (omega arith)
leads_within (suc n) t h = leads_by n (leads_within n) t h (rule t) refl

pub leads_some : (t : Tree) → (r : Tree) × Leads t r
leads_some t = leads_within (suc (weight t)) t (omega arith)

pub simple_some : (t : Tree) → (r : Tree) × IsSimpleForm t r
simple_some (Literal n) = (Literal n, of_literal n)
simple_some (Truth b) = (Truth b, of_truth b)
simple_some (Variable v) = (Variable v, of_variable v)
simple_some (Add x y) =
    let sx = simple_some x in
    let sy = simple_some y in
    let m = leads_some (Add sx.0 sy.0) in
    (m.0, of_add x y sx.0 sy.0 m.0 sx.1 sy.1 m.1)
simple_some (Subtract x y) =
    let sx = simple_some x in
    let sy = simple_some y in
    let m = leads_some (Subtract sx.0 sy.0) in
    (m.0, of_subtract x y sx.0 sy.0 m.0 sx.1 sy.1 m.1)
simple_some (Multiply x y) =
    let sx = simple_some x in
    let sy = simple_some y in
    let m = leads_some (Multiply sx.0 sy.0) in
    (m.0, of_multiply x y sx.0 sy.0 m.0 sx.1 sy.1 m.1)
simple_some (Divide x y) =
    let sx = simple_some x in
    let sy = simple_some y in
    let m = leads_some (Divide sx.0 sy.0) in
    (m.0, of_divide x y sx.0 sy.0 m.0 sx.1 sy.1 m.1)
simple_some (Remainder x y) =
    let sx = simple_some x in
    let sy = simple_some y in
    let m = leads_some (Remainder sx.0 sy.0) in
    (m.0, of_remainder x y sx.0 sy.0 m.0 sx.1 sy.1 m.1)
simple_some (ByteAnd x y) =
    let sx = simple_some x in
    let sy = simple_some y in
    let m = leads_some (ByteAnd sx.0 sy.0) in
    (m.0, of_byte_and x y sx.0 sy.0 m.0 sx.1 sy.1 m.1)
simple_some (ByteOr x y) =
    let sx = simple_some x in
    let sy = simple_some y in
    let m = leads_some (ByteOr sx.0 sy.0) in
    (m.0, of_byte_or x y sx.0 sy.0 m.0 sx.1 sy.1 m.1)
simple_some (ByteXor x y) =
    let sx = simple_some x in
    let sy = simple_some y in
    let m = leads_some (ByteXor sx.0 sy.0) in
    (m.0, of_byte_xor x y sx.0 sy.0 m.0 sx.1 sy.1 m.1)
simple_some (Parity x) =
    let sx = simple_some x in
    let m = leads_some (Parity sx.0) in
    (m.0, of_parity x sx.0 m.0 sx.1 m.1)
simple_some (Bit k x) =
    let sx = simple_some x in
    let m = leads_some (Bit k sx.0) in
    (m.0, of_bit k x sx.0 m.0 sx.1 m.1)
simple_some (Psw x y z u v) =
    let sx = simple_some x in
    let sy = simple_some y in
    let sz = simple_some z in
    let su = simple_some u in
    let sv = simple_some v in
    let m = leads_some (Psw sx.0 sy.0 sz.0 su.0 sv.0) in
    (m.0, of_psw x y z u v sx.0 sy.0 sz.0 su.0 sv.0 m.0 sx.1 sy.1 sz.1 su.1 sv.1 m.1)
simple_some (If x y z) =
    let sx = simple_some x in
    let sy = simple_some y in
    let sz = simple_some z in
    let m = leads_some (If sx.0 sy.0 sz.0) in
    (m.0, of_if x y z sx.0 sy.0 sz.0 m.0 sx.1 sy.1 sz.1 m.1)
simple_some (Element x y) =
    let sx = simple_some x in
    let sy = simple_some y in
    let m = leads_some (Element sx.0 sy.0) in
    (m.0, of_element x y sx.0 sy.0 m.0 sx.1 sy.1 m.1)
simple_some (Update x y z) =
    let sx = simple_some x in
    let sy = simple_some y in
    let sz = simple_some z in
    let m = leads_some (Update sx.0 sy.0 sz.0) in
    (m.0, of_update x y z sx.0 sy.0 sz.0 m.0 sx.1 sy.1 sz.1 m.1)
simple_some (Total x y z) =
    let sx = simple_some x in
    let sy = simple_some y in
    let sz = simple_some z in
    let m = leads_some (Total sx.0 sy.0 sz.0) in
    (m.0, of_total x y z sx.0 sy.0 sz.0 m.0 sx.1 sy.1 sz.1 m.1)
simple_some (Equal x y) =
    let sx = simple_some x in
    let sy = simple_some y in
    let m = leads_some (Equal sx.0 sy.0) in
    (m.0, of_equal x y sx.0 sy.0 m.0 sx.1 sy.1 m.1)
simple_some (Less x y) =
    let sx = simple_some x in
    let sy = simple_some y in
    let m = leads_some (Less sx.0 sy.0) in
    (m.0, of_less x y sx.0 sy.0 m.0 sx.1 sy.1 m.1)
simple_some (LessOrEqual x y) =
    let sx = simple_some x in
    let sy = simple_some y in
    let m = leads_some (LessOrEqual sx.0 sy.0) in
    (m.0, of_less_or_equal x y sx.0 sy.0 m.0 sx.1 sy.1 m.1)
simple_some (Not x) =
    let sx = simple_some x in
    let m = leads_some (Not sx.0) in
    (m.0, of_not x sx.0 m.0 sx.1 m.1)
simple_some (And x y) =
    let sx = simple_some x in
    let sy = simple_some y in
    let m = leads_some (And sx.0 sy.0) in
    (m.0, of_and x y sx.0 sy.0 m.0 sx.1 sy.1 m.1)
simple_some (Or x y) =
    let sx = simple_some x in
    let sy = simple_some y in
    let m = leads_some (Or sx.0 sy.0) in
    (m.0, of_or x y sx.0 sy.0 m.0 sx.1 sy.1 m.1)
simple_some (Implies x y) =
    let sx = simple_some x in
    let sy = simple_some y in
    let m = leads_some (Implies sx.0 sy.0) in
    (m.0, of_implies x y sx.0 sy.0 m.0 sx.1 sy.1 m.1)
simple_some (Iff x y) =
    let sx = simple_some x in
    let sy = simple_some y in
    let m = leads_some (Iff sx.0 sy.0) in
    (m.0, of_iff x y sx.0 sy.0 m.0 sx.1 sy.1 m.1)
simple_some (ForAll k x y z) =
    let sx = simple_some x in
    let sy = simple_some y in
    let sz = simple_some z in
    let m = leads_some (ForAll k sx.0 sy.0 sz.0) in
    (m.0, of_for_all k x y z sx.0 sy.0 sz.0 m.0 sx.1 sy.1 sz.1 m.1)
simple_some (ForSome k x y z) =
    let sx = simple_some x in
    let sy = simple_some y in
    let sz = simple_some z in
    let m = leads_some (ForSome k sx.0 sy.0 sz.0) in
    (m.0, of_for_some k x y z sx.0 sy.0 sz.0 m.0 sx.1 sy.1 sz.1 m.1)
