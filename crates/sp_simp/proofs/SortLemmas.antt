-- The rules keep sorts, and no rule makes a variable free.
use Rattle.std.proofs.Common.{◌≡◌, inl, inr, refl, sym, ◌∙◌, subst, Bool, true, false, ◌||◌, ◌&&◌, not, ℤ, pos, neg_ℤ, Option, Some, None}
use Rattle.std.specs.Prelude.{◌+ℤ◌, ◌-ℤ◌, ◌*ℤ◌}
use Rattle.std.proofs.lemmas.Bool.{or_cases, or_left, or_right, and_parts, and_from}
use Rattle.sp_base.specs.Integers.{remainder}
use Rattle.sp_term.specs.declared.var.Var.{Var}
use Rattle.sp_term.specs.declared.var.Var.TheVariants as var
use Rattle.sp_term.specs.Tree.{Tree, Literal, Truth, Add, Multiply, Divide, Remainder, If, Update}
use Rattle.sp_term.specs.Free.{is_free, var_eq}
use Rattle.sp_term.specs.Sorts.{Sort, Int, Formula, Memory, HasSort}
use Rattle.sp_term.specs.Intervals.{literal}
use Rattle.sp_simp.specs.declared.relation.Relation.{Relation}
use Rattle.sp_simp.specs.declared.relation.Relation.TheVariants as relation
use Rattle.sp_simp.specs.Rules.{Right, Is, Made, MadePlus, MadeModulo, rule, written, compared, base, based, offset}
use Rattle.sp_simp.specs.Simple.{Leads, stays, is, made, made_plus, made_modulo, IsSimpleForm, of_literal, of_truth, of_variable, of_add, of_subtract, of_multiply, of_divide, of_remainder, of_byte_and, of_byte_or, of_byte_xor, of_parity, of_bit, of_psw, of_if, of_element, of_update, of_total, of_equal, of_less, of_less_or_equal, of_not, of_and, of_or, of_implies, of_iff, of_for_all, of_for_some}
use Rattle.sp_simp.specs.code.Rows.{Row, row_fold_add, row_fold_subtract, row_fold_multiply, row_fold_divide, row_fold_remainder, row_fold_byte_and, row_fold_byte_or, row_fold_byte_xor, row_fold_parity, row_fold_bit, row_fold_flags, row_same_difference, row_literal_last, row_factor_first, row_plus_zero, row_minus_literal, row_join_offsets, row_left_offset_out, row_right_offset_out, row_whole_again, row_zero_times, row_one_times, row_join_factors, row_factor_in, row_over_one, row_small_quotient, row_quotient_of_multiple, row_modulo_one, row_small_remainder, row_remainder_twice, row_remainder_in_sum, row_offset_reduced, row_remainder_of_multiple, row_and_itself, row_or_itself, row_xor_itself, row_zero_and, row_and_zero, row_full_and, row_and_full, row_zero_or, row_or_zero, row_zero_xor, row_xor_zero, row_bit_seven, row_bit_six, row_bit_four, row_bit_two, row_bit_zero, row_bit_one, row_bit_three, row_bit_five, row_if_true, row_if_false, row_if_same, row_element_same, row_element_other, row_update_again, row_compare_same, row_compare_intervals, row_compare_left_offset, row_compare_right_offset, row_compare_offsets, row_compare_bases, row_equal_turned, row_choice_first, row_choice_second, row_choice_neither, row_not_truth, row_not_not, row_not_less_or_equal, row_not_less, row_true_and, row_and_true, row_false_and, row_and_false, row_and_same, row_false_or, row_or_false, row_true_or, row_or_true, row_or_same, row_true_implies, row_false_implies, row_implies_true, row_implies_false, row_implies_same, row_true_iff, row_iff_true, row_false_iff, row_iff_false, row_iff_same, row_for_all_true, row_for_all_empty, row_for_some_false, row_for_some_empty, row_empty_total, row_total_of_one}
use Rattle.sp_simp.proofs.RootLemmas.{offset_of}
use Rattle.sp_simp.proofs.RowLemmas.{rule_row}

pub compared_parts : (r : Relation) (x y : Tree) (s : Sort) → HasSort (compared r x y) s → (s ≡ Formula) × HasSort x Int × HasSort y Int
compared_parts relation.Equal x y s h = h
compared_parts relation.Less x y s h = h
compared_parts relation.LessOrEqual x y s h = h

compared_sort : (r : Relation) (x y : Tree) (s : Sort) → (s ≡ Formula) × HasSort x Int × HasSort y Int → HasSort (compared r x y) s
compared_sort relation.Equal x y s h = h
compared_sort relation.Less x y s h = h
compared_sort relation.LessOrEqual x y s h = h

based_sort : (t : Tree) (o : Option (Tree × ℤ)) (c : Option ℤ) → offset t ≡ o → literal t ≡ c → HasSort t Int → HasSort (based t o c).0 Int
based_sort t (Some p) c h g k = let j : HasSort (Add p.0 (Literal p.1)) Int = subst (λ u. HasSort u Int) (offset_of t p h) k in j.1
based_sort t None (Some c) h g k = refl
based_sort t None None h g k = k

pub base_sort : (t : Tree) → HasSort t Int → HasSort (base t).0 Int
base_sort t h = based_sort t (offset t) (literal t) refl refl h

row_sort : {t : Tree} {p : Right} → Row t p → (s : Sort) → HasSort t s → HasSort (written p) s
row_sort (row_fold_add c d) sort h = h.0
row_sort (row_fold_subtract c d) sort h = h.0
row_sort (row_fold_multiply c d) sort h = h.0
row_sort (row_fold_divide c d) sort h = h.0
row_sort (row_fold_remainder c d) sort h = h.0
row_sort (row_fold_byte_and c d) sort h = h.0
row_sort (row_fold_byte_or c d) sort h = h.0
row_sort (row_fold_byte_xor c d) sort h = h.0
row_sort (row_fold_parity c) sort h = h.0
row_sort (row_fold_bit k c) sort h = h.0
row_sort (row_fold_flags s z ac p cy) sort h = h.0
row_sort (row_same_difference x) sort h = h.0
row_sort (row_literal_last c x h0) sort h = (h.0, h.2, refl)
row_sort (row_factor_first x c h0) sort h = (h.0, refl, h.1)
row_sort (row_plus_zero x) sort h = subst (HasSort x) (sym h.0) h.1
row_sort (row_minus_literal x c) sort h = (h.0, h.1, refl)
row_sort (row_join_offsets x c d) sort h = (h.0, h.1.1, refl)
row_sort (row_left_offset_out x y c h0) sort h = (h.0, (refl, h.1.1, h.2), refl)
row_sort (row_right_offset_out x y c) sort h = (h.0, (refl, h.1, h.2.1), refl)
row_sort (row_whole_again x c h0) sort h = subst (HasSort x) (sym h.0) h.1.2.1
row_sort (row_zero_times x) sort h = h.0
row_sort (row_one_times x) sort h = subst (HasSort x) (sym h.0) h.2
row_sort (row_join_factors c d x) sort h = (h.0, refl, h.2.2)
row_sort (row_factor_in c d x) sort h = (h.0, (refl, refl, h.2.1), refl)
row_sort (row_over_one x) sort h = subst (HasSort x) (sym h.0) h.1
row_sort (row_small_quotient x c h0) sort h = h.0
row_sort (row_quotient_of_multiple c y x h0) sort h = subst (HasSort y) (sym h.0) h.1.1.2
row_sort (row_modulo_one x) sort h = h.0
row_sort (row_small_remainder x c h0) sort h = subst (HasSort x) (sym h.0) h.1
row_sort (row_remainder_twice x c d h0) sort h = (h.0, h.1.1, refl)
row_sort (row_remainder_in_sum x y c d h0) sort h = (h.0, (refl, h.1.1.1, h.1.2), refl)
row_sort (row_offset_reduced x c d h0) sort h = (h.0, (refl, h.1.1, refl), refl)
row_sort (row_remainder_of_multiple c y x h0) sort h = subst (HasSort x) (sym h.0) h.1.2
row_sort (row_and_itself x) sort h = (h.0, h.1, refl)
row_sort (row_or_itself x) sort h = (h.0, h.1, refl)
row_sort (row_xor_itself x) sort h = h.0
row_sort (row_zero_and x) sort h = h.0
row_sort (row_and_zero x) sort h = h.0
row_sort (row_full_and x) sort h = (h.0, h.2, refl)
row_sort (row_and_full x) sort h = (h.0, h.1, refl)
row_sort (row_zero_or x) sort h = (h.0, h.2, refl)
row_sort (row_or_zero x) sort h = (h.0, h.1, refl)
row_sort (row_zero_xor x) sort h = (h.0, h.2, refl)
row_sort (row_xor_zero x) sort h = (h.0, h.1, refl)
row_sort (row_bit_seven s z ac p cy h0) sort h = subst (HasSort s) (sym h.0) h.2.1
row_sort (row_bit_six s z ac p cy h0) sort h = subst (HasSort z) (sym h.0) h.2.2
row_sort (row_bit_four s z ac p cy h0) sort h = subst (HasSort ac) (sym h.0) h.2.3
row_sort (row_bit_two s z ac p cy h0) sort h = subst (HasSort p) (sym h.0) h.2.4
row_sort (row_bit_zero s z ac p cy h0) sort h = subst (HasSort cy) (sym h.0) h.2.5
row_sort (row_bit_one s z ac p cy) sort h = h.0
row_sort (row_bit_three s z ac p cy) sort h = h.0
row_sort (row_bit_five s z ac p cy) sort h = h.0
row_sort (row_if_true x y) sort h = subst (HasSort x) (sym h.0) h.2
row_sort (row_if_false x y) sort h = subst (HasSort y) (sym h.0) h.3
row_sort (row_if_same p x) sort h = subst (HasSort x) (sym h.0) h.2
row_sort (row_element_same m x v) sort h = subst (HasSort v) (sym h.0) h.1.3
row_sort (row_element_other m x v y h0) sort h = (h.0, h.1.1, h.2)
row_sort (row_update_again m x v w) sort h = (h.0, h.1.1, h.1.2, h.3)
row_sort (row_compare_same r x) sort h = let k = compared_parts r x x sort h in k.0
row_sort (row_compare_intervals r x y i j b h0 h1 h2) sort h = let k = compared_parts r x y sort h in k.0
row_sort (row_compare_left_offset r x c d) sort h = let k = compared_parts r (Add x (Literal c)) (Literal d) sort h in compared_sort r x (Literal (d -ℤ c)) sort (k.0, k.1.1, refl)
row_sort (row_compare_right_offset r x c d) sort h = let k = compared_parts r (Literal d) (Add x (Literal c)) sort h in compared_sort r (Literal (d -ℤ c)) x sort (k.0, refl, k.2.1)
row_sort (row_compare_offsets r x y h0 h1) sort h = let k = compared_parts r x y sort h in compared_sort r (Literal (base x).1) (Literal (base y).1) sort (k.0, refl, refl)
row_sort (row_compare_bases r x y h0 h1 h2) sort h = let k = compared_parts r x y sort h in compared_sort r (base x).0 (base y).0 sort (k.0, base_sort x k.1, base_sort y k.2)
row_sort (row_equal_turned c x h0) sort h = (h.0, h.2, refl)
row_sort (row_choice_first p c d h0) sort h = subst (HasSort p) (sym h.0) h.1.1
row_sort (row_choice_second p c d h0) sort h = (h.0, h.1.1)
row_sort (row_choice_neither p c d e h0 h1) sort h = h.0
row_sort (row_not_truth b) sort h = h.0
row_sort (row_not_not p) sort h = subst (HasSort p) (sym h.0) h.1.1
row_sort (row_not_less_or_equal x y) sort h = (h.0, h.1.2, h.1.1)
row_sort (row_not_less x y) sort h = (h.0, h.1.2, h.1.1)
row_sort (row_true_and p) sort h = subst (HasSort p) (sym h.0) h.2
row_sort (row_and_true p) sort h = subst (HasSort p) (sym h.0) h.1
row_sort (row_false_and p) sort h = h.0
row_sort (row_and_false p) sort h = h.0
row_sort (row_and_same p) sort h = subst (HasSort p) (sym h.0) h.1
row_sort (row_false_or p) sort h = subst (HasSort p) (sym h.0) h.2
row_sort (row_or_false p) sort h = subst (HasSort p) (sym h.0) h.1
row_sort (row_true_or p) sort h = h.0
row_sort (row_or_true p) sort h = h.0
row_sort (row_or_same p) sort h = subst (HasSort p) (sym h.0) h.1
row_sort (row_true_implies p) sort h = subst (HasSort p) (sym h.0) h.2
row_sort (row_false_implies p) sort h = h.0
row_sort (row_implies_true p) sort h = h.0
row_sort (row_implies_false p) sort h = (h.0, h.1)
row_sort (row_implies_same p) sort h = h.0
row_sort (row_true_iff p) sort h = subst (HasSort p) (sym h.0) h.2
row_sort (row_iff_true p) sort h = subst (HasSort p) (sym h.0) h.1
row_sort (row_false_iff p) sort h = (h.0, h.2)
row_sort (row_iff_false p) sort h = (h.0, h.1)
row_sort (row_iff_same p) sort h = h.0
row_sort (row_for_all_true k x y) sort h = h.0
row_sort (row_for_all_empty k c d p h0) sort h = h.0
row_sort (row_for_some_false k x y) sort h = h.0
row_sort (row_for_some_empty k c d p h0) sort h = h.0
row_sort (row_empty_total m c d h0) sort h = h.0
row_sort (row_total_of_one m x) sort h = (h.0, h.1, h.2)

pub rule_sort : (t : Tree) (p : Right) → rule t ≡ Some p → (s : Sort) → HasSort t s → HasSort (written p) s
rule_sort t p e s h = row_sort (rule_row t p e) s h

pub leads_sort : {t r : Tree} → Leads t r → (s : Sort) → HasSort t s → HasSort r s
leads_sort (stays t e) s h = h
leads_sort (is t r e) s h = rule_sort t (Is r) e s h
leads_sort (made t x r e m) s h = leads_sort m s (rule_sort t (Made x) e s h)
leads_sort (made_plus t x y r c e m n) s h = let k = rule_sort t (MadePlus x c) e s h in leads_sort n s (k.0, leads_sort m Int k.1, refl)
leads_sort (made_modulo t x y r c e m n) s h = let k = rule_sort t (MadeModulo x c) e s h in leads_sort n s (k.0, leads_sort m Int k.1, refl)

pub simple_sort : {t r : Tree} → IsSimpleForm t r → (s : Sort) → HasSort t s → HasSort r s
simple_sort (of_literal n) s h = h
simple_sort (of_truth b) s h = h
simple_sort (of_variable v) s h = h
simple_sort (of_add x y a b r f g m) s w = leads_sort m s (w.0, simple_sort f Int w.1, simple_sort g Int w.2)
simple_sort (of_subtract x y a b r f g m) s w = leads_sort m s (w.0, simple_sort f Int w.1, simple_sort g Int w.2)
simple_sort (of_multiply x y a b r f g m) s w = leads_sort m s (w.0, simple_sort f Int w.1, simple_sort g Int w.2)
simple_sort (of_divide x y a b r f g m) s w = leads_sort m s (w.0, simple_sort f Int w.1, simple_sort g Int w.2)
simple_sort (of_remainder x y a b r f g m) s w = leads_sort m s (w.0, simple_sort f Int w.1, simple_sort g Int w.2)
simple_sort (of_byte_and x y a b r f g m) s w = leads_sort m s (w.0, simple_sort f Int w.1, simple_sort g Int w.2)
simple_sort (of_byte_or x y a b r f g m) s w = leads_sort m s (w.0, simple_sort f Int w.1, simple_sort g Int w.2)
simple_sort (of_byte_xor x y a b r f g m) s w = leads_sort m s (w.0, simple_sort f Int w.1, simple_sort g Int w.2)
simple_sort (of_parity x a r f m) s w = leads_sort m s (w.0, simple_sort f Int w.1)
simple_sort (of_bit k x a r f m) s w = leads_sort m s (w.0, w.1, simple_sort f Int w.2)
simple_sort (of_psw x y z u v a b c d e r f g h i j m) s w = leads_sort m s (w.0, simple_sort f Int w.1, simple_sort g Int w.2, simple_sort h Int w.3, simple_sort i Int w.4, simple_sort j Int w.5)
simple_sort (of_if x y z a b c r f g h m) s w = leads_sort m s (w.0, simple_sort f Formula w.1, simple_sort g Int w.2, simple_sort h Int w.3)
simple_sort (of_element x y a b r f g m) s w = leads_sort m s (w.0, simple_sort f Memory w.1, simple_sort g Int w.2)
simple_sort (of_update x y z a b c r f g h m) s w = leads_sort m s (w.0, simple_sort f Memory w.1, simple_sort g Int w.2, simple_sort h Int w.3)
simple_sort (of_total x y z a b c r f g h m) s w = leads_sort m s (w.0, simple_sort f Memory w.1, simple_sort g Int w.2, simple_sort h Int w.3)
simple_sort (of_equal x y a b r f g m) s w = leads_sort m s (w.0, simple_sort f Int w.1, simple_sort g Int w.2)
simple_sort (of_less x y a b r f g m) s w = leads_sort m s (w.0, simple_sort f Int w.1, simple_sort g Int w.2)
simple_sort (of_less_or_equal x y a b r f g m) s w = leads_sort m s (w.0, simple_sort f Int w.1, simple_sort g Int w.2)
simple_sort (of_not x a r f m) s w = leads_sort m s (w.0, simple_sort f Formula w.1)
simple_sort (of_and x y a b r f g m) s w = leads_sort m s (w.0, simple_sort f Formula w.1, simple_sort g Formula w.2)
simple_sort (of_or x y a b r f g m) s w = leads_sort m s (w.0, simple_sort f Formula w.1, simple_sort g Formula w.2)
simple_sort (of_implies x y a b r f g m) s w = leads_sort m s (w.0, simple_sort f Formula w.1, simple_sort g Formula w.2)
simple_sort (of_iff x y a b r f g m) s w = leads_sort m s (w.0, simple_sort f Formula w.1, simple_sort g Formula w.2)
simple_sort (of_for_all k x y z a b c r f g h m) s w = leads_sort m s (w.0, w.1, simple_sort f Int w.2, simple_sort g Int w.3, simple_sort h Formula w.4)
simple_sort (of_for_some k x y z a b c r f g h m) s w = leads_sort m s (w.0, w.1, simple_sort f Int w.2, simple_sort g Int w.3, simple_sort h Formula w.4)

-- ---- free variables

none_free : {P : Type 0} → false ≡ true → P
none_free h = absurd (cc)

compared_free : (v : Var) (r : Relation) (x y : Tree) → is_free v (compared r x y) ≡ (is_free v x || is_free v y)
compared_free v relation.Equal x y = refl
compared_free v relation.Less x y = refl
compared_free v relation.LessOrEqual x y = refl

based_free : (v : Var) (t : Tree) (o : Option (Tree × ℤ)) (c : Option ℤ) → offset t ≡ o → literal t ≡ c → is_free v (based t o c).0 ≡ true → is_free v t ≡ true
based_free v t (Some p) c h g f = subst (λ u. is_free v u ≡ true) (sym (offset_of t p h)) (or_left (is_free v p.0) false f)
based_free v t None (Some c) h g f = none_free f
based_free v t None None h g f = f

base_free : (v : Var) (t : Tree) → is_free v (base t).0 ≡ true → is_free v t ≡ true
base_free v t f = based_free v t (offset t) (literal t) refl refl f

row_free : (v : Var) {t : Tree} {p : Right} → Row t p → is_free v (written p) ≡ true → is_free v t ≡ true
row_free name (row_fold_add c d) f = none_free (f)
row_free name (row_fold_subtract c d) f = none_free (f)
row_free name (row_fold_multiply c d) f = none_free (f)
row_free name (row_fold_divide c d) f = none_free (f)
row_free name (row_fold_remainder c d) f = none_free (f)
row_free name (row_fold_byte_and c d) f = none_free (f)
row_free name (row_fold_byte_or c d) f = none_free (f)
row_free name (row_fold_byte_xor c d) f = none_free (f)
row_free name (row_fold_parity c) f = none_free (f)
row_free name (row_fold_bit k c) f = none_free (f)
row_free name (row_fold_flags s z ac p cy) f = none_free (f)
row_free name (row_same_difference x) f = none_free (f)
row_free name (row_literal_last c x h0) f = elim (or_cases (is_free name x) (is_free name (Literal c)) (f)) [ inl f1 ↦ or_right (is_free name (Literal c)) (is_free name x) (f1) | inr f1 ↦ none_free (f1) ]
row_free name (row_factor_first x c h0) f = elim (or_cases (is_free name (Literal c)) (is_free name x) (f)) [ inl f1 ↦ none_free (f1) | inr f1 ↦ or_left (is_free name x) (is_free name (Literal c)) (f1) ]
row_free name (row_plus_zero x) f = or_left (is_free name x) (is_free name (Literal (pos 0))) (f)
row_free name (row_minus_literal x c) f = elim (or_cases (is_free name x) (is_free name (Literal (neg_ℤ c))) (f)) [ inl f1 ↦ or_left (is_free name x) (is_free name (Literal c)) (f1) | inr f1 ↦ none_free (f1) ]
row_free name (row_join_offsets x c d) f = elim (or_cases (is_free name x) (is_free name (Literal (c +ℤ d))) (f)) [ inl f1 ↦ or_left (is_free name (Add x (Literal c))) (is_free name (Literal d)) (or_left (is_free name x) (is_free name (Literal c)) (f1)) | inr f1 ↦ none_free (f1) ]
row_free name (row_left_offset_out x y c h0) f = elim (or_cases (is_free name (Add x y)) (is_free name (Literal c)) (f)) [ inl f1 ↦ elim (or_cases (is_free name x) (is_free name y) (f1)) [ inl f2 ↦ or_left (is_free name (Add x (Literal c))) (is_free name y) (or_left (is_free name x) (is_free name (Literal c)) (f2)) | inr f2 ↦ or_right (is_free name (Add x (Literal c))) (is_free name y) (f2) ] | inr f1 ↦ none_free (f1) ]
row_free name (row_right_offset_out x y c) f = elim (or_cases (is_free name (Add x y)) (is_free name (Literal c)) (f)) [ inl f1 ↦ elim (or_cases (is_free name x) (is_free name y) (f1)) [ inl f2 ↦ or_left (is_free name x) (is_free name (Add y (Literal c))) (f2) | inr f2 ↦ or_right (is_free name x) (is_free name (Add y (Literal c))) (or_left (is_free name y) (is_free name (Literal c)) (f2)) ] | inr f1 ↦ none_free (f1) ]
row_free name (row_whole_again x c h0) f = or_left (is_free name (Multiply (Literal c) (Divide x (Literal c)))) (is_free name (Remainder x (Literal c))) (or_right (is_free name (Literal c)) (is_free name (Divide x (Literal c))) (or_left (is_free name x) (is_free name (Literal c)) (f)))
row_free name (row_zero_times x) f = none_free (f)
row_free name (row_one_times x) f = or_right (is_free name (Literal (pos 1))) (is_free name x) (f)
row_free name (row_join_factors c d x) f = elim (or_cases (is_free name (Literal (c *ℤ d))) (is_free name x) (f)) [ inl f1 ↦ none_free (f1) | inr f1 ↦ or_right (is_free name (Literal c)) (is_free name (Multiply (Literal d) x)) (or_right (is_free name (Literal d)) (is_free name x) (f1)) ]
row_free name (row_factor_in c d x) f = elim (or_cases (is_free name (Multiply (Literal c) x)) (is_free name (Literal (c *ℤ d))) (f)) [ inl f1 ↦ elim (or_cases (is_free name (Literal c)) (is_free name x) (f1)) [ inl f2 ↦ none_free (f2) | inr f2 ↦ or_right (is_free name (Literal c)) (is_free name (Add x (Literal d))) (or_left (is_free name x) (is_free name (Literal d)) (f2)) ] | inr f1 ↦ none_free (f1) ]
row_free name (row_over_one x) f = or_left (is_free name x) (is_free name (Literal (pos 1))) (f)
row_free name (row_small_quotient x c h0) f = none_free (f)
row_free name (row_quotient_of_multiple c y x h0) f = or_left (is_free name (Add (Multiply (Literal c) y) x)) (is_free name (Literal c)) (or_left (is_free name (Multiply (Literal c) y)) (is_free name x) (or_right (is_free name (Literal c)) (is_free name y) (f)))
row_free name (row_modulo_one x) f = none_free (f)
row_free name (row_small_remainder x c h0) f = or_left (is_free name x) (is_free name (Literal c)) (f)
row_free name (row_remainder_twice x c d h0) f = elim (or_cases (is_free name x) (is_free name (Literal d)) (f)) [ inl f1 ↦ or_left (is_free name (Remainder x (Literal c))) (is_free name (Literal d)) (or_left (is_free name x) (is_free name (Literal c)) (f1)) | inr f1 ↦ none_free (f1) ]
row_free name (row_remainder_in_sum x y c d h0) f = elim (or_cases (is_free name (Add x y)) (is_free name (Literal d)) (f)) [ inl f1 ↦ elim (or_cases (is_free name x) (is_free name y) (f1)) [ inl f2 ↦ or_left (is_free name (Add (Remainder x (Literal c)) y)) (is_free name (Literal d)) (or_left (is_free name (Remainder x (Literal c))) (is_free name y) (or_left (is_free name x) (is_free name (Literal c)) (f2))) | inr f2 ↦ or_left (is_free name (Add (Remainder x (Literal c)) y)) (is_free name (Literal d)) (or_right (is_free name (Remainder x (Literal c))) (is_free name y) (f2)) ] | inr f1 ↦ none_free (f1) ]
row_free name (row_offset_reduced x c d h0) f = elim (or_cases (is_free name (Add x (Literal (remainder c d)))) (is_free name (Literal d)) (f)) [ inl f1 ↦ elim (or_cases (is_free name x) (is_free name (Literal (remainder c d))) (f1)) [ inl f2 ↦ or_left (is_free name (Add x (Literal c))) (is_free name (Literal d)) (or_left (is_free name x) (is_free name (Literal c)) (f2)) | inr f2 ↦ none_free (f2) ] | inr f1 ↦ none_free (f1) ]
row_free name (row_remainder_of_multiple c y x h0) f = or_left (is_free name (Add (Multiply (Literal c) y) x)) (is_free name (Literal c)) (or_right (is_free name (Multiply (Literal c) y)) (is_free name x) (f))
row_free name (row_and_itself x) f = elim (or_cases (is_free name x) (is_free name (Literal (pos 256))) (f)) [ inl f1 ↦ or_left (is_free name x) (is_free name x) (f1) | inr f1 ↦ none_free (f1) ]
row_free name (row_or_itself x) f = elim (or_cases (is_free name x) (is_free name (Literal (pos 256))) (f)) [ inl f1 ↦ or_left (is_free name x) (is_free name x) (f1) | inr f1 ↦ none_free (f1) ]
row_free name (row_xor_itself x) f = none_free (f)
row_free name (row_zero_and x) f = none_free (f)
row_free name (row_and_zero x) f = none_free (f)
row_free name (row_full_and x) f = elim (or_cases (is_free name x) (is_free name (Literal (pos 256))) (f)) [ inl f1 ↦ or_right (is_free name (Literal (pos 255))) (is_free name x) (f1) | inr f1 ↦ none_free (f1) ]
row_free name (row_and_full x) f = elim (or_cases (is_free name x) (is_free name (Literal (pos 256))) (f)) [ inl f1 ↦ or_left (is_free name x) (is_free name (Literal (pos 255))) (f1) | inr f1 ↦ none_free (f1) ]
row_free name (row_zero_or x) f = elim (or_cases (is_free name x) (is_free name (Literal (pos 256))) (f)) [ inl f1 ↦ or_right (is_free name (Literal (pos 0))) (is_free name x) (f1) | inr f1 ↦ none_free (f1) ]
row_free name (row_or_zero x) f = elim (or_cases (is_free name x) (is_free name (Literal (pos 256))) (f)) [ inl f1 ↦ or_left (is_free name x) (is_free name (Literal (pos 0))) (f1) | inr f1 ↦ none_free (f1) ]
row_free name (row_zero_xor x) f = elim (or_cases (is_free name x) (is_free name (Literal (pos 256))) (f)) [ inl f1 ↦ or_right (is_free name (Literal (pos 0))) (is_free name x) (f1) | inr f1 ↦ none_free (f1) ]
row_free name (row_xor_zero x) f = elim (or_cases (is_free name x) (is_free name (Literal (pos 256))) (f)) [ inl f1 ↦ or_left (is_free name x) (is_free name (Literal (pos 0))) (f1) | inr f1 ↦ none_free (f1) ]
row_free name (row_bit_seven s z ac p cy h0) f = or_left (is_free name s || is_free name z || is_free name ac || is_free name p) (is_free name cy) (or_left (is_free name s || is_free name z || is_free name ac) (is_free name p) (or_left (is_free name s || is_free name z) (is_free name ac) (or_left (is_free name s) (is_free name z) (f))))
row_free name (row_bit_six s z ac p cy h0) f = or_left (is_free name s || is_free name z || is_free name ac || is_free name p) (is_free name cy) (or_left (is_free name s || is_free name z || is_free name ac) (is_free name p) (or_left (is_free name s || is_free name z) (is_free name ac) (or_right (is_free name s) (is_free name z) (f))))
row_free name (row_bit_four s z ac p cy h0) f = or_left (is_free name s || is_free name z || is_free name ac || is_free name p) (is_free name cy) (or_left (is_free name s || is_free name z || is_free name ac) (is_free name p) (or_right (is_free name s || is_free name z) (is_free name ac) (f)))
row_free name (row_bit_two s z ac p cy h0) f = or_left (is_free name s || is_free name z || is_free name ac || is_free name p) (is_free name cy) (or_right (is_free name s || is_free name z || is_free name ac) (is_free name p) (f))
row_free name (row_bit_zero s z ac p cy h0) f = or_right (is_free name s || is_free name z || is_free name ac || is_free name p) (is_free name cy) (f)
row_free name (row_bit_one s z ac p cy) f = none_free (f)
row_free name (row_bit_three s z ac p cy) f = none_free (f)
row_free name (row_bit_five s z ac p cy) f = none_free (f)
row_free name (row_if_true x y) f = or_left (is_free name (Truth true) || is_free name x) (is_free name y) (or_right (is_free name (Truth true)) (is_free name x) (f))
row_free name (row_if_false x y) f = or_right (is_free name (Truth false) || is_free name x) (is_free name y) (f)
row_free name (row_if_same p x) f = or_left (is_free name p || is_free name x) (is_free name x) (or_right (is_free name p) (is_free name x) (f))
row_free name (row_element_same m x v) f = or_left (is_free name (Update m x v)) (is_free name x) (or_right (is_free name m || is_free name x) (is_free name v) (f))
row_free name (row_element_other m x v y h0) f = elim (or_cases (is_free name m) (is_free name y) (f)) [ inl f1 ↦ or_left (is_free name (Update m x v)) (is_free name y) (or_left (is_free name m || is_free name x) (is_free name v) (or_left (is_free name m) (is_free name x) (f1))) | inr f1 ↦ or_right (is_free name (Update m x v)) (is_free name y) (f1) ]
row_free name (row_update_again m x v w) f = elim (or_cases (is_free name m || is_free name x) (is_free name w) (f)) [ inl f1 ↦ elim (or_cases (is_free name m) (is_free name x) (f1)) [ inl f2 ↦ or_left (is_free name (Update m x v) || is_free name x) (is_free name w) (or_left (is_free name (Update m x v)) (is_free name x) (or_left (is_free name m || is_free name x) (is_free name v) (or_left (is_free name m) (is_free name x) (f2)))) | inr f2 ↦ or_left (is_free name (Update m x v) || is_free name x) (is_free name w) (or_left (is_free name (Update m x v)) (is_free name x) (or_left (is_free name m || is_free name x) (is_free name v) (or_right (is_free name m) (is_free name x) (f2)))) ] | inr f1 ↦ or_right (is_free name (Update m x v) || is_free name x) (is_free name w) (f1) ]
row_free name (row_compare_same r x) f = none_free (f)
row_free name (row_compare_intervals r x y i j b h0 h1 h2) f = none_free (f)
row_free name (row_compare_left_offset r x c d) f = elim (or_cases (is_free name x) (is_free name (Literal (d -ℤ c))) (sym (compared_free name r x (Literal (d -ℤ c))) ∙ f)) [ inl f1 ↦ compared_free name r (Add x (Literal c)) (Literal d) ∙ (or_left (is_free name (Add x (Literal c))) (is_free name (Literal d)) (or_left (is_free name x) (is_free name (Literal c)) (f1))) | inr f1 ↦ none_free (f1) ]
row_free name (row_compare_right_offset r x c d) f = elim (or_cases (is_free name (Literal (d -ℤ c))) (is_free name x) (sym (compared_free name r (Literal (d -ℤ c)) x) ∙ f)) [ inl f1 ↦ none_free (f1) | inr f1 ↦ compared_free name r (Literal d) (Add x (Literal c)) ∙ (or_right (is_free name (Literal d)) (is_free name (Add x (Literal c))) (or_left (is_free name x) (is_free name (Literal c)) (f1))) ]
row_free name (row_compare_offsets r x y h0 h1) f = elim (or_cases (is_free name (Literal (base x).1)) (is_free name (Literal (base y).1)) (sym (compared_free name r (Literal (base x).1) (Literal (base y).1)) ∙ f)) [ inl f1 ↦ none_free (f1) | inr f1 ↦ none_free (f1) ]
row_free name (row_compare_bases r x y h0 h1 h2) f = elim (or_cases (is_free name (base x).0) (is_free name (base y).0) (sym (compared_free name r (base x).0 (base y).0) ∙ f)) [ inl f1 ↦ compared_free name r x y ∙ (or_left (is_free name x) (is_free name y) (base_free name x (f1))) | inr f1 ↦ compared_free name r x y ∙ (or_right (is_free name x) (is_free name y) (base_free name y (f1))) ]
row_free name (row_equal_turned c x h0) f = elim (or_cases (is_free name x) (is_free name (Literal c)) (f)) [ inl f1 ↦ or_right (is_free name (Literal c)) (is_free name x) (f1) | inr f1 ↦ none_free (f1) ]
row_free name (row_choice_first p c d h0) f = or_left (is_free name (If p (Literal c) (Literal d))) (is_free name (Literal c)) (or_left (is_free name p || is_free name (Literal c)) (is_free name (Literal d)) (or_left (is_free name p) (is_free name (Literal c)) (f)))
row_free name (row_choice_second p c d h0) f = or_left (is_free name (If p (Literal c) (Literal d))) (is_free name (Literal d)) (or_left (is_free name p || is_free name (Literal c)) (is_free name (Literal d)) (or_left (is_free name p) (is_free name (Literal c)) (f)))
row_free name (row_choice_neither p c d e h0 h1) f = none_free (f)
row_free name (row_not_truth b) f = none_free (f)
row_free name (row_not_not p) f = f
row_free name (row_not_less_or_equal x y) f = elim (or_cases (is_free name y) (is_free name x) (f)) [ inl f1 ↦ or_right (is_free name x) (is_free name y) (f1) | inr f1 ↦ or_left (is_free name x) (is_free name y) (f1) ]
row_free name (row_not_less x y) f = elim (or_cases (is_free name y) (is_free name x) (f)) [ inl f1 ↦ or_right (is_free name x) (is_free name y) (f1) | inr f1 ↦ or_left (is_free name x) (is_free name y) (f1) ]
row_free name (row_true_and p) f = or_right (is_free name (Truth true)) (is_free name p) (f)
row_free name (row_and_true p) f = or_left (is_free name p) (is_free name (Truth true)) (f)
row_free name (row_false_and p) f = none_free (f)
row_free name (row_and_false p) f = none_free (f)
row_free name (row_and_same p) f = or_left (is_free name p) (is_free name p) (f)
row_free name (row_false_or p) f = or_right (is_free name (Truth false)) (is_free name p) (f)
row_free name (row_or_false p) f = or_left (is_free name p) (is_free name (Truth false)) (f)
row_free name (row_true_or p) f = none_free (f)
row_free name (row_or_true p) f = none_free (f)
row_free name (row_or_same p) f = or_left (is_free name p) (is_free name p) (f)
row_free name (row_true_implies p) f = or_right (is_free name (Truth true)) (is_free name p) (f)
row_free name (row_false_implies p) f = none_free (f)
row_free name (row_implies_true p) f = none_free (f)
row_free name (row_implies_false p) f = or_left (is_free name p) (is_free name (Truth false)) (f)
row_free name (row_implies_same p) f = none_free (f)
row_free name (row_true_iff p) f = or_right (is_free name (Truth true)) (is_free name p) (f)
row_free name (row_iff_true p) f = or_left (is_free name p) (is_free name (Truth true)) (f)
row_free name (row_false_iff p) f = or_right (is_free name (Truth false)) (is_free name p) (f)
row_free name (row_iff_false p) f = or_left (is_free name p) (is_free name (Truth false)) (f)
row_free name (row_iff_same p) f = none_free (f)
row_free name (row_for_all_true k x y) f = none_free (f)
row_free name (row_for_all_empty k c d p h0) f = none_free (f)
row_free name (row_for_some_false k x y) f = none_free (f)
row_free name (row_for_some_empty k c d p h0) f = none_free (f)
row_free name (row_empty_total m c d h0) f = none_free (f)
row_free name (row_total_of_one m x) f = elim (or_cases (is_free name m) (is_free name x) (f)) [ inl f1 ↦ or_left (is_free name m || is_free name x) (is_free name x) (or_left (is_free name m) (is_free name x) (f1)) | inr f1 ↦ or_left (is_free name m || is_free name x) (is_free name x) (or_right (is_free name m) (is_free name x) (f1)) ]

pub rule_free : (v : Var) (t : Tree) (p : Right) → rule t ≡ Some p → is_free v (written p) ≡ true → is_free v t ≡ true
rule_free v t p e f = row_free v (rule_row t p e) f

-- a sum or a remainder with a literal has the free variables of the other part
with_literal : (v : Var) (x y : Tree) → (is_free v y ≡ true → is_free v x ≡ true) → (is_free v y || false) ≡ true → (is_free v x || false) ≡ true
with_literal v x y g f = elim (or_cases (is_free v y) false f) [ inl k ↦ or_left (is_free v x) false (g k) | inr k ↦ none_free k ]

pub leads_free : (v : Var) {t r : Tree} → Leads t r → is_free v r ≡ true → is_free v t ≡ true
leads_free v (stays t e) f = f
leads_free v (is t r e) f = rule_free v t (Is r) e f
leads_free v (made t x r e m) f = rule_free v t (Made x) e (leads_free v m f)
leads_free v (made_plus t x y r c e m n) f = rule_free v t (MadePlus x c) e (with_literal v x y (leads_free v m) (leads_free v n f))
leads_free v (made_modulo t x y r c e m n) f = rule_free v t (MadeModulo x c) e (with_literal v x y (leads_free v m) (leads_free v n f))

either_way : (a b c d : Bool) → (a ≡ true → c ≡ true) → (b ≡ true → d ≡ true) → (a || b) ≡ true → (c || d) ≡ true
either_way a b c d g h f = elim (or_cases a b f) [ inl k ↦ or_left c d (g k) | inr k ↦ or_right c d (h k) ]

inside : (a b c : Bool) → (b ≡ true → c ≡ true) → (a && b) ≡ true → (a && c) ≡ true
inside a b c g f = let k = and_parts a b f in and_from a c k.0 (g k.1)

pub simple_free : (name : Var) {t r : Tree} → IsSimpleForm t r → is_free name r ≡ true → is_free name t ≡ true
simple_free name (of_literal n) w = w
simple_free name (of_truth b) w = w
simple_free name (of_variable u) w = w
simple_free name (of_add x y a b r f g m) w = (either_way (is_free name a) (is_free name b) (is_free name x) (is_free name y) (simple_free name f) (simple_free name g)) (leads_free name m w)
simple_free name (of_subtract x y a b r f g m) w = (either_way (is_free name a) (is_free name b) (is_free name x) (is_free name y) (simple_free name f) (simple_free name g)) (leads_free name m w)
simple_free name (of_multiply x y a b r f g m) w = (either_way (is_free name a) (is_free name b) (is_free name x) (is_free name y) (simple_free name f) (simple_free name g)) (leads_free name m w)
simple_free name (of_divide x y a b r f g m) w = (either_way (is_free name a) (is_free name b) (is_free name x) (is_free name y) (simple_free name f) (simple_free name g)) (leads_free name m w)
simple_free name (of_remainder x y a b r f g m) w = (either_way (is_free name a) (is_free name b) (is_free name x) (is_free name y) (simple_free name f) (simple_free name g)) (leads_free name m w)
simple_free name (of_byte_and x y a b r f g m) w = (either_way (is_free name a) (is_free name b) (is_free name x) (is_free name y) (simple_free name f) (simple_free name g)) (leads_free name m w)
simple_free name (of_byte_or x y a b r f g m) w = (either_way (is_free name a) (is_free name b) (is_free name x) (is_free name y) (simple_free name f) (simple_free name g)) (leads_free name m w)
simple_free name (of_byte_xor x y a b r f g m) w = (either_way (is_free name a) (is_free name b) (is_free name x) (is_free name y) (simple_free name f) (simple_free name g)) (leads_free name m w)
simple_free name (of_parity x a r f m) w = (simple_free name f) (leads_free name m w)
simple_free name (of_bit k x a r f m) w = (simple_free name f) (leads_free name m w)
simple_free name (of_psw x y z u v a b c d e r f g h i j m) w = (either_way (is_free name a || is_free name b || is_free name c || is_free name d) (is_free name e) (is_free name x || is_free name y || is_free name z || is_free name u) (is_free name v) (either_way (is_free name a || is_free name b || is_free name c) (is_free name d) (is_free name x || is_free name y || is_free name z) (is_free name u) (either_way (is_free name a || is_free name b) (is_free name c) (is_free name x || is_free name y) (is_free name z) (either_way (is_free name a) (is_free name b) (is_free name x) (is_free name y) (simple_free name f) (simple_free name g)) (simple_free name h)) (simple_free name i)) (simple_free name j)) (leads_free name m w)
simple_free name (of_if x y z a b c r f g h m) w = (either_way (is_free name a || is_free name b) (is_free name c) (is_free name x || is_free name y) (is_free name z) (either_way (is_free name a) (is_free name b) (is_free name x) (is_free name y) (simple_free name f) (simple_free name g)) (simple_free name h)) (leads_free name m w)
simple_free name (of_element x y a b r f g m) w = (either_way (is_free name a) (is_free name b) (is_free name x) (is_free name y) (simple_free name f) (simple_free name g)) (leads_free name m w)
simple_free name (of_update x y z a b c r f g h m) w = (either_way (is_free name a || is_free name b) (is_free name c) (is_free name x || is_free name y) (is_free name z) (either_way (is_free name a) (is_free name b) (is_free name x) (is_free name y) (simple_free name f) (simple_free name g)) (simple_free name h)) (leads_free name m w)
simple_free name (of_total x y z a b c r f g h m) w = (either_way (is_free name a || is_free name b) (is_free name c) (is_free name x || is_free name y) (is_free name z) (either_way (is_free name a) (is_free name b) (is_free name x) (is_free name y) (simple_free name f) (simple_free name g)) (simple_free name h)) (leads_free name m w)
simple_free name (of_equal x y a b r f g m) w = (either_way (is_free name a) (is_free name b) (is_free name x) (is_free name y) (simple_free name f) (simple_free name g)) (leads_free name m w)
simple_free name (of_less x y a b r f g m) w = (either_way (is_free name a) (is_free name b) (is_free name x) (is_free name y) (simple_free name f) (simple_free name g)) (leads_free name m w)
simple_free name (of_less_or_equal x y a b r f g m) w = (either_way (is_free name a) (is_free name b) (is_free name x) (is_free name y) (simple_free name f) (simple_free name g)) (leads_free name m w)
simple_free name (of_not x a r f m) w = (simple_free name f) (leads_free name m w)
simple_free name (of_and x y a b r f g m) w = (either_way (is_free name a) (is_free name b) (is_free name x) (is_free name y) (simple_free name f) (simple_free name g)) (leads_free name m w)
simple_free name (of_or x y a b r f g m) w = (either_way (is_free name a) (is_free name b) (is_free name x) (is_free name y) (simple_free name f) (simple_free name g)) (leads_free name m w)
simple_free name (of_implies x y a b r f g m) w = (either_way (is_free name a) (is_free name b) (is_free name x) (is_free name y) (simple_free name f) (simple_free name g)) (leads_free name m w)
simple_free name (of_iff x y a b r f g m) w = (either_way (is_free name a) (is_free name b) (is_free name x) (is_free name y) (simple_free name f) (simple_free name g)) (leads_free name m w)
simple_free name (of_for_all k x y z a b c r f g h m) w = either_way (is_free name a || is_free name b) (not (var_eq name (var.Bound k)) && is_free name c) (is_free name x || is_free name y) (not (var_eq name (var.Bound k)) && is_free name z) (either_way (is_free name a) (is_free name b) (is_free name x) (is_free name y) (simple_free name f) (simple_free name g)) (inside (not (var_eq name (var.Bound k))) (is_free name c) (is_free name z) (simple_free name h)) (leads_free name m w)
simple_free name (of_for_some k x y z a b c r f g h m) w = either_way (is_free name a || is_free name b) (not (var_eq name (var.Bound k)) && is_free name c) (is_free name x || is_free name y) (not (var_eq name (var.Bound k)) && is_free name z) (either_way (is_free name a) (is_free name b) (is_free name x) (is_free name y) (simple_free name f) (simple_free name g)) (inside (not (var_eq name (var.Bound k))) (is_free name c) (is_free name z) (simple_free name h)) (leads_free name m w)
