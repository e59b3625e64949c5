-- Where a rule matches, one of the cases stands.
use Rattle.std.proofs.Common.{ℕ, ◌≡◌, inl, inr, refl, sym, ◌∙◌, ap, subst, Bool, true, false, ◌&&◌, ◌||◌, not, ◌==◌, ℤ, pos, neg_ℤ, Option, Some, None}
use Rattle.std.specs.Prelude.{◌+ℤ◌, ◌-ℤ◌, ◌*ℤ◌, int_lt, if◌then◌else◌}
use Rattle.std.specs.Ordering.{int_eq}
use Rattle.std.proofs.lemmas.Bool.{eqb-true, and_parts, or_cases}
use Rattle.sp_base.specs.Integers.{quotient, remainder, byte_and, byte_or, byte_xor, parity}
use Rattle.sp_term.specs.Tree.{Tree, Literal, Truth, Variable, Add, Subtract, Multiply, Divide, Remainder, ByteAnd, ByteOr, ByteXor, Parity, Bit, Psw, If, Element, Update, Total, Equal, Less, LessOrEqual, Not, And, Or, Implies, Iff, ForAll, ForSome}
use Rattle.sp_term.specs.Value.{bit, psw}
use Rattle.sp_term.specs.declared.interval.Interval.{Interval}
use Rattle.sp_term.specs.Intervals.{literal, interval, fits}
use Rattle.sp_simp.specs.declared.relation.Relation.{Relation}
use Rattle.sp_simp.specs.declared.relation.Relation.TheVariants as relation
use Rattle.sp_simp.specs.Same.{tree_eq, tree_one}
use Rattle.sp_simp.specs.Rules as rules
use Rattle.sp_simp.specs.Rules.{Right, Is, Made, MadePlus, MadeModulo, when, first, number, truth, offset, multiple, divided, reduced, multiple_sum, reduced_sum, base, compared, low_byte_of, is_number, is_within, is_divisor, is_beyond, are_parts, decided, verdict, is_reflexive, is_empty, is_known, are_apart, rule}
use Rattle.sp_simp.specs.code.Rows.{Row, IsSum, row_fold_add, row_fold_subtract, row_fold_multiply, row_fold_divide, row_fold_remainder, row_fold_byte_and, row_fold_byte_or, row_fold_byte_xor, row_fold_parity, row_fold_bit, row_fold_flags, row_same_difference, row_literal_last, row_factor_first, row_plus_zero, row_minus_literal, row_join_offsets, row_left_offset_out, row_right_offset_out, row_whole_again, row_zero_times, row_one_times, row_join_factors, row_factor_in, row_over_one, row_small_quotient, row_quotient_of_multiple, row_modulo_one, row_small_remainder, row_remainder_twice, row_remainder_in_sum, row_offset_reduced, row_remainder_of_multiple, row_and_itself, row_or_itself, row_xor_itself, row_zero_and, row_and_zero, row_full_and, row_and_full, row_zero_or, row_or_zero, row_zero_xor, row_xor_zero, row_bit_seven, row_bit_six, row_bit_four, row_bit_two, row_bit_zero, row_bit_one, row_bit_three, row_bit_five, row_if_true, row_if_false, row_if_same, row_element_same, row_element_other, row_update_again, row_compare_same, row_compare_intervals, row_compare_left_offset, row_compare_right_offset, row_compare_offsets, row_compare_bases, row_equal_turned, row_choice_first, row_choice_second, row_choice_neither, row_not_truth, row_not_not, row_not_less_or_equal, row_not_less, row_true_and, row_and_true, row_false_and, row_and_false, row_and_same, row_false_or, row_or_false, row_true_or, row_or_true, row_or_same, row_true_implies, row_false_implies, row_implies_true, row_implies_false, row_implies_same, row_true_iff, row_iff_true, row_false_iff, row_iff_false, row_iff_same, row_for_all_true, row_for_all_empty, row_for_some_false, row_for_some_empty, row_empty_total, row_total_of_one}
use Rattle.sp_simp.proofs.RootLemmas.{when_is, first_is, literal_of, truth_of, offset_of, multiple_of, divided_of, reduced_of, multiple_sum_of, reduced_sum_of, int_one}

-- a case of a tree is one of a tree that is the same
moved : {t u : Tree} {p : Right} → t ≡ u → Row u p → Row t p
moved {t} {u} {p} h r = subst (λ w. Row w p) (sym h) r

both : (k : Tree → Tree → Tree) {x y a b : Tree} → x ≡ a → y ≡ b → k x y ≡ k a b
both k h g = λ i. k (h i) (g i)

fold_two_row : (k : Tree → Tree → Tree) (f : ℤ → ℤ → ℤ) → ((c d : ℤ) → Row (k (Literal c) (Literal d)) (Is (Literal (f c d)))) →
    (x y : Tree) (a b : Option ℤ) → literal x ≡ a → literal y ≡ b → (p : Right) → rules.fold_two f a b ≡ Some p → Row (k x y) p
fold_two_row k f row x y (Some c) (Some d) h g p e = when_is (Row (k x y)) (fits (f c d)) _ p e (λ _. moved (both k (literal_of x c h) (literal_of y d g)) (row c d))
fold_two_row k f row x y (Some c) None h g p e = absurd (cc)
fold_two_row k f row x y None _ h g p e = absurd (cc)

fold_row : (k : Tree → Tree) (f : ℤ → ℤ) → ((c : ℤ) → Row (k (Literal c)) (Is (Literal (f c)))) →
    (x : Tree) (a : Option ℤ) → literal x ≡ a → (p : Right) → rules.fold f a ≡ Some p → Row (k x) p
fold_row k f row x (Some c) h p e = when_is (Row (k x)) (fits (f c)) _ p e (λ _. moved (ap k (literal_of x c h)) (row c))
fold_row k f row x None h p e = absurd (cc)

fold_psw_row : (s z ac p cy : Tree) (a b c d f : Option ℤ) → literal s ≡ a → literal z ≡ b → literal ac ≡ c → literal p ≡ d → literal cy ≡ f →
    (q : Right) → rules.fold_psw a b c d f ≡ Some q → Row (Psw s z ac p cy) q
fold_psw_row s z ac p cy (Some a) (Some b) (Some c) (Some d) (Some f) h1 h2 h3 h4 h5 q e = when_is (Row (Psw s z ac p cy)) (fits (psw a b c d f)) _ q e
    (λ _. moved (λ i. Psw (literal_of s a h1 i) (literal_of z b h2 i) (literal_of ac c h3 i) (literal_of p d h4 i) (literal_of cy f h5 i)) (row_fold_flags a b c d f))
fold_psw_row s z ac p cy None b c d f h1 h2 h3 h4 h5 q e = absurd (cc)
fold_psw_row s z ac p cy (Some _) None c d f h1 h2 h3 h4 h5 q e = absurd (cc)
fold_psw_row s z ac p cy (Some _) (Some _) None d f h1 h2 h3 h4 h5 q e = absurd (cc)
fold_psw_row s z ac p cy (Some _) (Some _) (Some _) None f h1 h2 h3 h4 h5 q e = absurd (cc)
fold_psw_row s z ac p cy (Some _) (Some _) (Some _) (Some _) None h1 h2 h3 h4 h5 q e = absurd (cc)

-- ---- sums

literal_last_row : (x y : Tree) (a b : Option ℤ) → literal x ≡ a → literal y ≡ b → (p : Right) → rules.literal_last a y b ≡ Some p → Row (Add x y) p
literal_last_row x y (Some c) None h g p e = let k : Made (Add y (Literal c)) ≡ p = cc in subst (Row (Add x y)) k (moved (both Add (literal_of x c h) refl) (row_literal_last c y g))
literal_last_row x y (Some c) (Some d) h g p e = absurd (cc)
literal_last_row x y None _ h g p e = absurd (cc)

plus_zero_row : (x y : Tree) (b : Option ℤ) → literal y ≡ b → (p : Right) → rules.plus_zero x b ≡ Some p → Row (Add x y) p
plus_zero_row x y (Some d) g p e = when_is (Row (Add x y)) (int_eq d (pos 0)) _ p e (λ z. moved (both Add refl (literal_of y d g ∙ ap Literal (int_one d (pos 0) z))) (row_plus_zero x))
plus_zero_row x y None g p e = absurd (cc)

join_offsets_row : (x y : Tree) (a : Option (Tree × ℤ)) (b : Option ℤ) → offset x ≡ a → literal y ≡ b → (p : Right) → rules.join_offsets a b ≡ Some p → Row (Add x y) p
join_offsets_row x y (Some o) (Some d) h g p e = when_is (Row (Add x y)) (fits (o.1 +ℤ d)) _ p e (λ _. moved (both Add (offset_of x o h) (literal_of y d g)) (row_join_offsets o.0 o.1 d))
join_offsets_row x y (Some o) None h g p e = absurd (cc)
join_offsets_row x y None _ h g p e = absurd (cc)

left_offset_out_row : (x y : Tree) (a : Option (Tree × ℤ)) (b : Option ℤ) → offset x ≡ a → literal y ≡ b → (p : Right) → rules.left_offset_out a y b ≡ Some p → Row (Add x y) p
left_offset_out_row x y (Some o) None h g p e = let k : MadePlus (Add o.0 y) o.1 ≡ p = cc in subst (Row (Add x y)) k (moved (both Add (offset_of x o h) refl) (row_left_offset_out o.0 y o.1 g))
left_offset_out_row x y (Some o) (Some d) h g p e = absurd (cc)
left_offset_out_row x y None _ h g p e = absurd (cc)

right_offset_out_row : (x y : Tree) (b : Option (Tree × ℤ)) → offset y ≡ b → (p : Right) → rules.right_offset_out x b ≡ Some p → Row (Add x y) p
right_offset_out_row x y (Some o) g p e = let k : MadePlus (Add x o.0) o.1 ≡ p = cc in subst (Row (Add x y)) k (moved (both Add refl (offset_of y o g)) (row_right_offset_out x o.0 o.1))
right_offset_out_row x y None g p e = absurd (cc)

whole_row : (x y z : Tree) (c : ℤ) (a b : Option (Tree × ℤ)) → x ≡ Multiply (Literal c) z → divided z ≡ a → reduced y ≡ b → (p : Right) → rules.whole_of c a b ≡ Some p → Row (Add x y) p
whole_row x y z c (Some q) (Some r) h g f p e = when_is (Row (Add x y)) (are_parts c q r) _ p e (λ t.
    let a = and_parts (int_lt (pos 0) c && int_eq c q.1 && int_eq c r.1) (tree_eq q.0 r.0) t in
    let b = and_parts (int_lt (pos 0) c && int_eq c q.1) (int_eq c r.1) a.0 in
    let d = and_parts (int_lt (pos 0) c) (int_eq c q.1) b.0 in
    let i : q.0 ≡ r.0 = tree_one q.0 r.0 a.1 in
    let j : q.1 ≡ c = sym (int_one c q.1 d.1) in
    let k : r.1 ≡ c = sym (int_one c r.1 b.1) in
    moved (both Add (h ∙ ap (Multiply (Literal c)) (divided_of z q g ∙ (λ w. Divide (i w) (Literal (j w))))) (reduced_of y r f ∙ ap (λ n. Remainder r.0 (Literal n)) k)) (row_whole_again r.0 c d.0))
whole_row x y z c (Some q) None h g f p e = absurd (cc)
whole_row x y z c None _ h g f p e = absurd (cc)

whole_again_row : (x y : Tree) (a : Option (ℤ × Tree)) → multiple x ≡ a → (p : Right) → rules.whole_again a (reduced y) ≡ Some p → Row (Add x y) p
whole_again_row x y (Some m) h p e = whole_row x y m.1 m.0 (divided m.1) (reduced y) (multiple_of x m h) refl refl p e
whole_again_row x y None h p e = absurd (cc)

sum_row : (x y : Tree) (p : Right) → rules.sum_rule x y ≡ Some p → Row (Add x y) p
unfolding rules.sum_rule
sum_row x y p e =
    first_is (Row (Add x y)) _ _ p e (fold_two_row Add (λ c d. c +ℤ d) row_fold_add x y (literal x) (literal y) refl refl p) (λ _ e1.
    first_is (Row (Add x y)) _ _ p e1 (literal_last_row x y (literal x) (literal y) refl refl p) (λ _ e2.
    first_is (Row (Add x y)) _ _ p e2 (plus_zero_row x y (literal y) refl p) (λ _ e3.
    first_is (Row (Add x y)) _ _ p e3 (join_offsets_row x y (offset x) (literal y) refl refl p) (λ _ e4.
    first_is (Row (Add x y)) _ _ p e4 (left_offset_out_row x y (offset x) (literal y) refl refl p) (λ _ e5.
    first_is (Row (Add x y)) _ _ p e5 (right_offset_out_row x y (offset y) refl p) (λ _ e6.
    whole_again_row x y (multiple x) refl p e6))))))

-- ---- differences and products

minus_literal_row : (x y : Tree) (b : Option ℤ) → literal y ≡ b → (p : Right) → rules.minus_literal x b ≡ Some p → Row (Subtract x y) p
minus_literal_row x y (Some d) g p e = when_is (Row (Subtract x y)) (fits (neg_ℤ d)) _ p e (λ _. moved (both Subtract refl (literal_of y d g)) (row_minus_literal x d))
minus_literal_row x y None g p e = absurd (cc)

difference_row : (x y : Tree) (p : Right) → rules.difference_rule x y ≡ Some p → Row (Subtract x y) p
unfolding rules.difference_rule
difference_row x y p e =
    first_is (Row (Subtract x y)) _ _ p e (fold_two_row Subtract (λ c d. c -ℤ d) row_fold_subtract x y (literal x) (literal y) refl refl p) (λ _ e1.
    first_is (Row (Subtract x y)) _ _ p e1 (λ f. when_is (Row (Subtract x y)) (tree_eq x y) _ p f (λ s. moved (both Subtract (tree_one x y s) refl) (row_same_difference y))) (λ _ e2.
    minus_literal_row x y (literal y) refl p e2))

factor_first_row : (x y : Tree) (a b : Option ℤ) → literal x ≡ a → literal y ≡ b → (p : Right) → rules.factor_first x a b ≡ Some p → Row (Multiply x y) p
factor_first_row x y None (Some d) h g p e = let k : Made (Multiply (Literal d) x) ≡ p = cc in subst (Row (Multiply x y)) k (moved (both Multiply refl (literal_of y d g)) (row_factor_first x d h))
factor_first_row x y None None h g p e = absurd (cc)
factor_first_row x y (Some c) _ h g p e = absurd (cc)

zero_times_row : (x y : Tree) (a : Option ℤ) → literal x ≡ a → (p : Right) → rules.zero_times a ≡ Some p → Row (Multiply x y) p
zero_times_row x y (Some c) h p e = when_is (Row (Multiply x y)) (int_eq c (pos 0)) _ p e (λ z. moved (both Multiply (literal_of x c h ∙ ap Literal (int_one c (pos 0) z)) refl) (row_zero_times y))
zero_times_row x y None h p e = absurd (cc)

one_times_row : (x y : Tree) (a : Option ℤ) → literal x ≡ a → (p : Right) → rules.one_times a y ≡ Some p → Row (Multiply x y) p
one_times_row x y (Some c) h p e = when_is (Row (Multiply x y)) (int_eq c (pos 1)) _ p e (λ z. moved (both Multiply (literal_of x c h ∙ ap Literal (int_one c (pos 1) z)) refl) (row_one_times y))
one_times_row x y None h p e = absurd (cc)

join_factors_row : (x y : Tree) (a : Option ℤ) (b : Option (ℤ × Tree)) → literal x ≡ a → multiple y ≡ b → (p : Right) → rules.join_factors a b ≡ Some p → Row (Multiply x y) p
join_factors_row x y (Some c) (Some m) h g p e = when_is (Row (Multiply x y)) (fits (c *ℤ m.0)) _ p e (λ _. moved (both Multiply (literal_of x c h) (multiple_of y m g)) (row_join_factors c m.0 m.1))
join_factors_row x y (Some c) None h g p e = absurd (cc)
join_factors_row x y None _ h g p e = absurd (cc)

factor_in_row : (x y : Tree) (a : Option ℤ) (b : Option (Tree × ℤ)) → literal x ≡ a → offset y ≡ b → (p : Right) → rules.factor_in a b ≡ Some p → Row (Multiply x y) p
factor_in_row x y (Some c) (Some o) h g p e = when_is (Row (Multiply x y)) (fits (c *ℤ o.1)) _ p e (λ _. moved (both Multiply (literal_of x c h) (offset_of y o g)) (row_factor_in c o.1 o.0))
factor_in_row x y (Some c) None h g p e = absurd (cc)
factor_in_row x y None _ h g p e = absurd (cc)

product_row : (x y : Tree) (p : Right) → rules.product_rule x y ≡ Some p → Row (Multiply x y) p
unfolding rules.product_rule
product_row x y p e =
    first_is (Row (Multiply x y)) _ _ p e (fold_two_row Multiply (λ c d. c *ℤ d) row_fold_multiply x y (literal x) (literal y) refl refl p) (λ _ e1.
    first_is (Row (Multiply x y)) _ _ p e1 (factor_first_row x y (literal x) (literal y) refl refl p) (λ _ e2.
    first_is (Row (Multiply x y)) _ _ p e2 (zero_times_row x y (literal x) refl p) (λ _ e3.
    first_is (Row (Multiply x y)) _ _ p e3 (one_times_row x y (literal x) refl p) (λ _ e4.
    first_is (Row (Multiply x y)) _ _ p e4 (join_factors_row x y (literal x) (multiple y) refl refl p) (λ _ e5.
    factor_in_row x y (literal x) (offset y) refl refl p e5)))))

-- ---- quotients and remainders

over_one_row : (x y : Tree) (b : Option ℤ) → literal y ≡ b → (p : Right) → rules.over_one x b ≡ Some p → Row (Divide x y) p
over_one_row x y (Some d) g p e = when_is (Row (Divide x y)) (int_eq d (pos 1)) _ p e (λ z. moved (both Divide refl (literal_of y d g ∙ ap Literal (int_one d (pos 1) z))) (row_over_one x))
over_one_row x y None g p e = absurd (cc)

small_quotient_row : (x y : Tree) (b : Option ℤ) → literal y ≡ b → (p : Right) → rules.small_quotient (interval x) b ≡ Some p → Row (Divide x y) p
small_quotient_row x y (Some d) g p e = when_is (Row (Divide x y)) (is_within (interval x) d) _ p e (λ z. moved (both Divide refl (literal_of y d g)) (row_small_quotient x d z))
small_quotient_row x y None g p e = absurd (cc)

quotient_of_multiple_row : (x y : Tree) (a : Option ((ℤ × Tree) × Tree)) (b : Option ℤ) → multiple_sum x ≡ a → literal y ≡ b → (p : Right) → rules.quotient_of_multiple a b ≡ Some p → Row (Divide x y) p
quotient_of_multiple_row x y (Some s) (Some d) h g p e = when_is (Row (Divide x y)) (int_eq s.0.0 d && is_within (interval s.1) d) _ p e (λ z.
    let a = and_parts (int_eq s.0.0 d) (is_within (interval s.1) d) z in
    moved (both Divide (multiple_sum_of x s h ∙ ap (λ n. Add (Multiply (Literal n) s.0.1) s.1) (int_one s.0.0 d a.0)) (literal_of y d g)) (row_quotient_of_multiple d s.0.1 s.1 a.1))
quotient_of_multiple_row x y (Some s) None h g p e = absurd (cc)
quotient_of_multiple_row x y None _ h g p e = absurd (cc)

quotient_row : (x y : Tree) (p : Right) → rules.quotient_rule x y ≡ Some p → Row (Divide x y) p
unfolding rules.quotient_rule
quotient_row x y p e =
    first_is (Row (Divide x y)) _ _ p e (fold_two_row Divide quotient row_fold_divide x y (literal x) (literal y) refl refl p) (λ _ e1.
    first_is (Row (Divide x y)) _ _ p e1 (over_one_row x y (literal y) refl p) (λ _ e2.
    first_is (Row (Divide x y)) _ _ p e2 (small_quotient_row x y (literal y) refl p) (λ _ e3.
    quotient_of_multiple_row x y (multiple_sum x) (literal y) refl refl p e3)))

modulo_one_row : (x y : Tree) (b : Option ℤ) → literal y ≡ b → (p : Right) → rules.modulo_one b ≡ Some p → Row (Remainder x y) p
modulo_one_row x y (Some d) g p e = when_is (Row (Remainder x y)) (int_eq d (pos 1)) _ p e (λ z. moved (both Remainder refl (literal_of y d g ∙ ap Literal (int_one d (pos 1) z))) (row_modulo_one x))
modulo_one_row x y None g p e = absurd (cc)

small_remainder_row : (x y : Tree) (b : Option ℤ) → literal y ≡ b → (p : Right) → rules.small_remainder x (interval x) b ≡ Some p → Row (Remainder x y) p
small_remainder_row x y (Some d) g p e = when_is (Row (Remainder x y)) (is_within (interval x) d) _ p e (λ z. moved (both Remainder refl (literal_of y d g)) (row_small_remainder x d z))
small_remainder_row x y None g p e = absurd (cc)

remainder_twice_row : (x y : Tree) (a : Option (Tree × ℤ)) (b : Option ℤ) → reduced x ≡ a → literal y ≡ b → (p : Right) → rules.remainder_twice a b ≡ Some p → Row (Remainder x y) p
remainder_twice_row x y (Some r) (Some d) h g p e = when_is (Row (Remainder x y)) (is_divisor d r.1) _ p e (λ z. moved (both Remainder (reduced_of x r h) (literal_of y d g)) (row_remainder_twice r.0 r.1 d z))
remainder_twice_row x y (Some r) None h g p e = absurd (cc)
remainder_twice_row x y None _ h g p e = absurd (cc)

remainder_in_sum_row : (x y : Tree) (a : Option ((Tree × ℤ) × Tree)) (b : Option ℤ) → reduced_sum x ≡ a → literal y ≡ b → (p : Right) → rules.remainder_in_sum a b ≡ Some p → Row (Remainder x y) p
remainder_in_sum_row x y (Some s) (Some d) h g p e = when_is (Row (Remainder x y)) (is_divisor d s.0.1) _ p e (λ z. moved (both Remainder (reduced_sum_of x s h) (literal_of y d g)) (row_remainder_in_sum s.0.0 s.1 s.0.1 d z))
remainder_in_sum_row x y (Some s) None h g p e = absurd (cc)
remainder_in_sum_row x y None _ h g p e = absurd (cc)

offset_reduced_row : (x y : Tree) (a : Option (Tree × ℤ)) (b : Option ℤ) → offset x ≡ a → literal y ≡ b → (p : Right) → rules.offset_reduced a b ≡ Some p → Row (Remainder x y) p
offset_reduced_row x y (Some o) (Some d) h g p e = when_is (Row (Remainder x y)) (is_beyond o.1 d) _ p e (λ z. moved (both Remainder (offset_of x o h) (literal_of y d g)) (row_offset_reduced o.0 o.1 d z))
offset_reduced_row x y (Some o) None h g p e = absurd (cc)
offset_reduced_row x y None _ h g p e = absurd (cc)

remainder_of_multiple_row : (x y : Tree) (a : Option ((ℤ × Tree) × Tree)) (b : Option ℤ) → multiple_sum x ≡ a → literal y ≡ b → (p : Right) → rules.remainder_of_multiple a b ≡ Some p → Row (Remainder x y) p
remainder_of_multiple_row x y (Some s) (Some d) h g p e = when_is (Row (Remainder x y)) (int_eq s.0.0 d && is_within (interval s.1) d) _ p e (λ z.
    let a = and_parts (int_eq s.0.0 d) (is_within (interval s.1) d) z in
    moved (both Remainder (multiple_sum_of x s h ∙ ap (λ n. Add (Multiply (Literal n) s.0.1) s.1) (int_one s.0.0 d a.0)) (literal_of y d g)) (row_remainder_of_multiple d s.0.1 s.1 a.1))
remainder_of_multiple_row x y (Some s) None h g p e = absurd (cc)
remainder_of_multiple_row x y None _ h g p e = absurd (cc)

remainder_row : (x y : Tree) (p : Right) → rules.remainder_rule x y ≡ Some p → Row (Remainder x y) p
unfolding rules.remainder_rule
remainder_row x y p e =
    first_is (Row (Remainder x y)) _ _ p e (fold_two_row Remainder remainder row_fold_remainder x y (literal x) (literal y) refl refl p) (λ _ e1.
    first_is (Row (Remainder x y)) _ _ p e1 (modulo_one_row x y (literal y) refl p) (λ _ e2.
    first_is (Row (Remainder x y)) _ _ p e2 (small_remainder_row x y (literal y) refl p) (λ _ e3.
    first_is (Row (Remainder x y)) _ _ p e3 (remainder_twice_row x y (reduced x) (literal y) refl refl p) (λ _ e4.
    first_is (Row (Remainder x y)) _ _ p e4 (remainder_in_sum_row x y (reduced_sum x) (literal y) refl refl p) (λ _ e5.
    first_is (Row (Remainder x y)) _ _ p e5 (offset_reduced_row x y (offset x) (literal y) refl refl p) (λ _ e6.
    remainder_of_multiple_row x y (multiple_sum x) (literal y) refl refl p e6))))))

-- ---- bits and bytes

number_of : (n : ℤ) (x : Tree) (a : Option ℤ) → literal x ≡ a → is_number n a ≡ true → x ≡ Literal n
number_of n x (Some c) h e = literal_of x c h ∙ ap Literal (int_one c n e)
number_of n x None h e = absurd (cc)

byte_with_row : (k : Tree → Tree → Tree) (n : ℤ) → ((z : Tree) → Row (k (Literal n) z) (low_byte_of z)) → ((z : Tree) → Row (k z (Literal n)) (low_byte_of z)) →
    (x y : Tree) (p : Right) → rules.byte_with n x (literal x) y (literal y) ≡ Some p → Row (k x y) p
byte_with_row k n left right x y p e =
    first_is (Row (k x y)) _ _ p e (λ f. when_is (Row (k x y)) (is_number n (literal x)) _ p f (λ z. moved (both k (number_of n x (literal x) refl z) refl) (left y)))
    (λ _ f. when_is (Row (k x y)) (is_number n (literal y)) _ p f (λ z. moved (both k refl (number_of n y (literal y) refl z)) (right x)))

byte_and_zero_row : (x y : Tree) (p : Right) → rules.byte_and_zero (literal x) (literal y) ≡ Some p → Row (ByteAnd x y) p
byte_and_zero_row x y p e = when_is (Row (ByteAnd x y)) (is_number (pos 0) (literal x) || is_number (pos 0) (literal y)) _ p e (λ z.
    elim (or_cases (is_number (pos 0) (literal x)) (is_number (pos 0) (literal y)) z) [
      | inl h ↦ moved (both ByteAnd (number_of (pos 0) x (literal x) refl h) refl) (row_zero_and y)
      | inr h ↦ moved (both ByteAnd refl (number_of (pos 0) y (literal y) refl h)) (row_and_zero x)
    ])

itself_row : (k : Tree → Tree → Tree) (q : Tree → Right) → ((z : Tree) → Row (k z z) (q z)) → (x y : Tree) (p : Right) → when (tree_eq x y) (q x) ≡ Some p → Row (k x y) p
itself_row k q row x y p e = when_is (Row (k x y)) (tree_eq x y) _ p e (λ s. moved (both k refl (sym (tree_one x y s))) (row x))

byte_and_row : (x y : Tree) (p : Right) → rules.byte_and_rule x y ≡ Some p → Row (ByteAnd x y) p
unfolding rules.byte_and_rule
byte_and_row x y p e =
    first_is (Row (ByteAnd x y)) _ _ p e (fold_two_row ByteAnd byte_and row_fold_byte_and x y (literal x) (literal y) refl refl p) (λ _ e1.
    first_is (Row (ByteAnd x y)) _ _ p e1 (itself_row ByteAnd low_byte_of row_and_itself x y p) (λ _ e2.
    first_is (Row (ByteAnd x y)) _ _ p e2 (byte_and_zero_row x y p) (λ _ e3.
    byte_with_row ByteAnd (pos 255) row_full_and row_and_full x y p e3)))

byte_or_row : (x y : Tree) (p : Right) → rules.byte_or_rule x y ≡ Some p → Row (ByteOr x y) p
unfolding rules.byte_or_rule
byte_or_row x y p e =
    first_is (Row (ByteOr x y)) _ _ p e (fold_two_row ByteOr byte_or row_fold_byte_or x y (literal x) (literal y) refl refl p) (λ _ e1.
    first_is (Row (ByteOr x y)) _ _ p e1 (itself_row ByteOr low_byte_of row_or_itself x y p) (λ _ e2.
    byte_with_row ByteOr (pos 0) row_zero_or row_or_zero x y p e2))

byte_xor_row : (x y : Tree) (p : Right) → rules.byte_xor_rule x y ≡ Some p → Row (ByteXor x y) p
unfolding rules.byte_xor_rule
byte_xor_row x y p e =
    first_is (Row (ByteXor x y)) _ _ p e (fold_two_row ByteXor byte_xor row_fold_byte_xor x y (literal x) (literal y) refl refl p) (λ _ e1.
    first_is (Row (ByteXor x y)) _ _ p e1 (itself_row ByteXor (λ z. Is (Literal (pos 0))) row_xor_itself x y p) (λ _ e2.
    byte_with_row ByteXor (pos 0) row_zero_xor row_xor_zero x y p e2))

-- one of two right sides, by a test
either : (P : Right → Type 0) (b : Bool) (q r : Option Right) (p : Right) → (if b then q else r) ≡ Some p → (b ≡ true → q ≡ Some p → P p) → (b ≡ false → r ≡ Some p → P p) → P p
either P true q r p e f g = f refl e
either P false q r p e f g = g refl e

flag_row : (k n : ℕ) (t x : Tree) → (is_within (interval x) (pos 2) ≡ true → Row (Bit n t) (Is x)) → (k == n) ≡ true → (p : Right) → rules.flag x ≡ Some p → Row (Bit k t) p
flag_row k n t x row h p e = when_is (Row (Bit k t)) (is_within (interval x) (pos 2)) _ p e (λ w. moved (ap (λ j. Bit j t) (eqb-true k n h)) (row w))

flag_bit_row : (k : ℕ) (t : Tree) (q : Right) → rules.flag_bit k t ≡ Some q → Row (Bit k t) q
flag_bit_row k (Psw s z ac p cy) q e =
    either (Row (Bit k (Psw s z ac p cy))) (k == 7) _ _ q e (λ h f. flag_row k 7 _ s (row_bit_seven s z ac p cy) h q f) (λ _ e1.
    either (Row (Bit k (Psw s z ac p cy))) (k == 6) _ _ q e1 (λ h f. flag_row k 6 _ z (row_bit_six s z ac p cy) h q f) (λ _ e2.
    either (Row (Bit k (Psw s z ac p cy))) (k == 4) _ _ q e2 (λ h f. flag_row k 4 _ ac (row_bit_four s z ac p cy) h q f) (λ _ e3.
    either (Row (Bit k (Psw s z ac p cy))) (k == 2) _ _ q e3 (λ h f. flag_row k 2 _ p (row_bit_two s z ac p cy) h q f) (λ _ e4.
    either (Row (Bit k (Psw s z ac p cy))) (k == 0) _ _ q e4 (λ h f. flag_row k 0 _ cy (row_bit_zero s z ac p cy) h q f) (λ _ e5.
    either (Row (Bit k (Psw s z ac p cy))) (k == 1) _ _ q e5 (λ h f. let j : Is (Literal (pos 1)) ≡ q = cc in subst (Row (Bit k (Psw s z ac p cy))) j (moved (ap (λ j. Bit j (Psw s z ac p cy)) (eqb-true k 1 h)) (row_bit_one s z ac p cy))) (λ _ e6.
    when_is (Row (Bit k (Psw s z ac p cy))) (k == 3 || k == 5) _ q e6 (λ h. elim (or_cases (k == 3) (k == 5) h) [
      | inl g ↦ moved (ap (λ j. Bit j (Psw s z ac p cy)) (eqb-true k 3 g)) (row_bit_three s z ac p cy)
      | inr g ↦ moved (ap (λ j. Bit j (Psw s z ac p cy)) (eqb-true k 5 g)) (row_bit_five s z ac p cy)
    ])))))))
flag_bit_row k _ q e = absurd (cc)

bit_row : (k : ℕ) (x : Tree) (p : Right) → rules.bit_rule k x ≡ Some p → Row (Bit k x) p
unfolding rules.bit_rule
bit_row k x p e = first_is (Row (Bit k x)) _ _ p e (fold_row (Bit k) (bit k) (row_fold_bit k) x (literal x) refl p) (λ _ e1. flag_bit_row k x p e1)

-- ---- choices and memories

-- the right side that a rule without a test writes
just : (P : Right → Type 0) (q p : Right) → Some q ≡ Some p → P q → P p
just P q p e r = let k : q ≡ p = cc in subst P k r

if_row : (p x y : Tree) (q : Right) → when (tree_eq x y) (Is x) ≡ Some q → Row (If p x y) q
if_row p x y q e = when_is (Row (If p x y)) (tree_eq x y) _ q e (λ s. moved (both (If p) refl (sym (tree_one x y s))) (row_if_same p x))

choice_true_row : (p x y : Tree) (b : Option Bool) → truth p ≡ b → (q : Right) → rules.choice b (tree_eq x y) x y ≡ Some q → Row (If p x y) q
choice_true_row p x y (Some true) h q e = just (Row (If p x y)) (Is x) q e (moved (ap (λ w. If w x y) (truth_of p true h)) (row_if_true x y))
choice_true_row p x y (Some false) h q e = if_row p x y q e
choice_true_row p x y None h q e = if_row p x y q e

choice_false_row : (p x y : Tree) (b : Option Bool) → truth p ≡ b → (q : Right) → rules.choice_false b y ≡ Some q → Row (If p x y) q
choice_false_row p x y (Some true) h q e = absurd (cc)
choice_false_row p x y (Some false) h q e = just (Row (If p x y)) (Is y) q e (moved (ap (λ w. If w x y) (truth_of p false h)) (row_if_false x y))
choice_false_row p x y None h q e = absurd (cc)

choice_row : (p x y : Tree) (q : Right) → rules.choice_rule p x y ≡ Some q → Row (If p x y) q
unfolding rules.choice_rule
choice_row p x y q e = first_is (Row (If p x y)) _ _ q e (choice_true_row p x y (truth p) refl q) (λ _ e1. choice_false_row p x y (truth p) refl q e1)

element_row : (t y : Tree) (q : Right) → rules.element_of t y ≡ Some q → Row (Element t y) q
element_row (Update m x v) y q e = first_is (Row (Element (Update m x v) y)) _ _ q e
    (λ f. when_is (Row (Element (Update m x v) y)) (tree_eq x y) _ q f (λ s. moved (ap (Element (Update m x v)) (sym (tree_one x y s))) (row_element_same m x v)))
    (λ _ f. when_is (Row (Element (Update m x v) y)) (are_apart x y) _ q f (λ s. row_element_other m x v y s))
element_row _ y q e = absurd (cc)

update_row : (t y w : Tree) (q : Right) → rules.update_of t y w ≡ Some q → Row (Update t y w) q
update_row (Update m x v) y w q e = when_is (Row (Update (Update m x v) y w)) (tree_eq x y) _ q e (λ s. moved (ap (λ z. Update (Update m z v) y w) (tree_one x y s)) (row_update_again m y v w))
update_row _ y w q e = absurd (cc)

-- ---- comparisons

left_row : (r : Relation) (x y : Tree) (a : Option (Tree × ℤ)) (b : Option ℤ) → offset x ≡ a → literal y ≡ b → (p : Right) → rules.compare_left_offset r a b ≡ Some p → Row (compared r x y) p
left_row r x y (Some o) (Some d) h g p e = when_is (Row (compared r x y)) (fits (d -ℤ o.1)) _ p e (λ _. moved (both (compared r) (offset_of x o h) (literal_of y d g)) (row_compare_left_offset r o.0 o.1 d))
left_row r x y (Some o) None h g p e = absurd (cc)
left_row r x y None _ h g p e = absurd (cc)

right_row : (r : Relation) (x y : Tree) (a : Option ℤ) (b : Option (Tree × ℤ)) → literal x ≡ a → offset y ≡ b → (p : Right) → rules.compare_right_offset r a b ≡ Some p → Row (compared r x y) p
right_row r x y (Some d) (Some o) h g p e = when_is (Row (compared r x y)) (fits (d -ℤ o.1)) _ p e (λ _. moved (both (compared r) (literal_of x d h) (offset_of y o g)) (row_compare_right_offset r o.0 o.1 d))
right_row r x y (Some d) None h g p e = absurd (cc)
right_row r x y None _ h g p e = absurd (cc)

verdict_is : (P : Right → Type 0) (a b : Bool) (p : Right) → verdict a b ≡ Some p → ((c : Bool) → verdict a b ≡ Some (Is (Truth c)) → P (Is (Truth c))) → P p
verdict_is P true b p e f = let k : Is (Truth true) ≡ p = cc in subst P k (f true refl)
verdict_is P false true p e f = let k : Is (Truth false) ≡ p = cc in subst P k (f false refl)
verdict_is P false false p e f = absurd (cc)

decided_is : (P : Right → Type 0) (r : Relation) (i j : Interval) (p : Right) → decided r i j ≡ Some p → ((c : Bool) → decided r i j ≡ Some (Is (Truth c)) → P (Is (Truth c))) → P p
decided_is P relation.Equal i j p e f = verdict_is P _ _ p e f
decided_is P relation.Less i j p e f = verdict_is P _ _ p e f
decided_is P relation.LessOrEqual i j p e f = verdict_is P _ _ p e f

intervals_row : (r : Relation) (x y : Tree) (a b : Option Interval) → interval x ≡ a → interval y ≡ b → (p : Right) → rules.compare_intervals r a b ≡ Some p → Row (compared r x y) p
intervals_row r x y (Some i) (Some j) h g p e = decided_is (Row (compared r x y)) r i j p e (λ c d. row_compare_intervals r x y i j c h g d)
intervals_row r x y (Some i) None h g p e = absurd (cc)
intervals_row r x y None _ h g p e = absurd (cc)

sum_is : (x y : Tree) (a b : Option (Tree × ℤ)) → offset x ≡ a → offset y ≡ b → (rules.is_sum a || rules.is_sum b) ≡ true → IsSum x y
sum_is x y (Some p) b h g e = inl (p, h)
sum_is x y None (Some q) h g e = inr (q, g)
sum_is x y None None h g e = absurd (cc)

not_false : (b : Bool) → not b ≡ true → b ≡ false
not_false false h = refl
not_false true h = absurd (cc)

offsets_row : (r : Relation) (x y : Tree) (p : Right) → rules.compare_offsets r (rules.is_sum (offset x) || rules.is_sum (offset y)) (base x) (base y) ≡ Some p → Row (compared r x y) p
offsets_row r x y p e = when_is (Row (compared r x y)) ((rules.is_sum (offset x) || rules.is_sum (offset y)) && tree_eq (base x).0 (base y).0) _ p e (λ z.
    let a = and_parts (rules.is_sum (offset x) || rules.is_sum (offset y)) (tree_eq (base x).0 (base y).0) z in
    row_compare_offsets r x y (sum_is x y (offset x) (offset y) refl refl a.0) a.1)

bases_row : (r : Relation) (x y : Tree) (p : Right) → rules.compare_bases r (rules.is_sum (offset x) || rules.is_sum (offset y)) (base x) (base y) ≡ Some p → Row (compared r x y) p
bases_row r x y p e =
    let sum = rules.is_sum (offset x) || rules.is_sum (offset y) in
    let one = int_eq (base x).1 (base y).1 in
    let zero = int_eq (base x).1 (pos 0) in
    when_is (Row (compared r x y)) (sum && one && not zero) _ p e (λ z.
    let a = and_parts (sum && one) (not zero) z in
    let b = and_parts sum one a.0 in
    row_compare_bases r x y (sum_is x y (offset x) (offset y) refl refl b.0) b.1 (not_false zero a.1))

comparison_row : (r : Relation) (x y : Tree) (p : Right) → rules.comparison_rule r x y ≡ Some p → Row (compared r x y) p
unfolding rules.comparison_rule
comparison_row r x y p e =
    first_is (Row (compared r x y)) _ _ p e (λ f. when_is (Row (compared r x y)) (tree_eq x y) _ p f (λ s. moved (both (compared r) refl (sym (tree_one x y s))) (row_compare_same r x))) (λ _ e1.
    first_is (Row (compared r x y)) _ _ p e1 (intervals_row r x y (interval x) (interval y) refl refl p) (λ _ e2.
    first_is (Row (compared r x y)) _ _ p e2 (left_row r x y (offset x) (literal y) refl refl p) (λ _ e3.
    first_is (Row (compared r x y)) _ _ p e3 (right_row r x y (literal x) (offset y) refl refl p) (λ _ e4.
    first_is (Row (compared r x y)) _ _ p e4 (offsets_row r x y p) (λ _ e5. bases_row r x y p e5)))))

turned_row : (x y : Tree) (a b : Option ℤ) → literal x ≡ a → literal y ≡ b → (p : Right) → rules.equal_turned a y b ≡ Some p → Row (Equal x y) p
turned_row x y (Some c) None h g p e = just (Row (Equal x y)) (Made (Equal y (Literal c))) p e (moved (both Equal (literal_of x c h) refl) (row_equal_turned c y g))
turned_row x y (Some c) (Some d) h g p e = absurd (cc)
turned_row x y None _ h g p e = absurd (cc)

chosen_row : (f x y z : Tree) (c d : Option ℤ) (n : ℤ) → literal x ≡ c → literal y ≡ d → z ≡ Literal n → (p : Right) → rules.chosen_is f c d n ≡ Some p → Row (Equal (If f x y) z) p
chosen_row f x y z (Some c) (Some d) n h g k p e =
    let at : Equal (If f x y) z ≡ Equal (If f (Literal c) (Literal d)) (Literal n) = λ i. Equal (If f (literal_of x c h i) (literal_of y d g i)) (k i) in
    either (Row (Equal (If f x y) z)) (int_eq c d) _ _ p e (λ _ e0. absurd (cc)) (λ apart e1.
    either (Row (Equal (If f x y) z)) (int_eq c n) _ _ p e1
    (λ s e2. just (Row (Equal (If f x y) z)) (Is f) p e2 (moved (at ∙ ap (λ m. Equal (If f (Literal c) (Literal d)) (Literal m)) (sym (int_one c n s))) (row_choice_first f c d apart)))
    (λ first e2. either (Row (Equal (If f x y) z)) (int_eq d n) _ _ p e2
    (λ s e3. just (Row (Equal (If f x y) z)) (Made (Not f)) p e3 (moved (at ∙ ap (λ m. Equal (If f (Literal c) (Literal d)) (Literal m)) (sym (int_one d n s))) (row_choice_second f c d apart)))
    (λ second e3. just (Row (Equal (If f x y) z)) (Is (Truth false)) p e3 (moved at (row_choice_neither f c d n first second)))))
chosen_row f x y z (Some c) None n h g k p e = absurd (cc)
chosen_row f x y z None _ n h g k p e = absurd (cc)

equal_choice_row : (x y : Tree) (b : Option ℤ) → literal y ≡ b → (p : Right) → rules.equal_choice x b ≡ Some p → Row (Equal x y) p
equal_choice_row (If f x z) y (Some n) g p e = chosen_row f x z y (literal x) (literal z) n refl refl (literal_of y n g) p e
equal_choice_row _ y (Some n) g p e = absurd (cc)
equal_choice_row x y None g p e = absurd (choice_none x p e)
  where
    choice_none : (x : Tree) (p : Right) → rules.equal_choice x None ≡ Some p → ⊥
    choice_none (If f a b) p e = cc
    choice_none _ p e = cc

equality_row : (x y : Tree) (p : Right) → rules.equality_rule x y ≡ Some p → Row (Equal x y) p
unfolding rules.equality_rule
equality_row x y p e =
    first_is (Row (Equal x y)) _ _ p e (comparison_row relation.Equal x y p) (λ _ e1.
    first_is (Row (Equal x y)) _ _ p e1 (turned_row x y (literal x) (literal y) refl refl p) (λ _ e2.
    equal_choice_row x y (literal y) refl p e2))

-- ---- formulas

not_row : (t : Tree) (q : Right) → rules.negated t ≡ Some q → Row (Not t) q
not_row (Truth b) q e = just (Row (Not (Truth b))) (Is (Truth (not b))) q e (row_not_truth b)
not_row (Not p) q e = just (Row (Not (Not p))) (Is p) q e (row_not_not p)
not_row (LessOrEqual x y) q e = just (Row (Not (LessOrEqual x y))) (Made (Less y x)) q e (row_not_less_or_equal x y)
not_row (Less x y) q e = just (Row (Not (Less x y))) (Made (LessOrEqual y x)) q e (row_not_less x y)
not_row _ q e = absurd (cc)

and_row : (p q : Tree) (a b : Option Bool) → truth p ≡ a → truth q ≡ b → (r : Right) → rules.joined true p a q b (tree_eq p q) ≡ Some r → Row (And p q) r
and_row p q (Some true) b h g r e = just (Row (And p q)) (Is q) r e (moved (both And (truth_of p true h) refl) (row_true_and q))
and_row p q (Some false) b h g r e = just (Row (And p q)) (Is (Truth false)) r e (moved (both And (truth_of p false h) refl) (row_false_and q))
and_row p q None (Some true) h g r e = just (Row (And p q)) (Is p) r e (moved (both And refl (truth_of q true g)) (row_and_true p))
and_row p q None (Some false) h g r e = just (Row (And p q)) (Is (Truth false)) r e (moved (both And refl (truth_of q false g)) (row_and_false p))
and_row p q None None h g r e = when_is (Row (And p q)) (tree_eq p q) _ r e (λ s. moved (both And refl (sym (tree_one p q s))) (row_and_same p))

or_row : (p q : Tree) (a b : Option Bool) → truth p ≡ a → truth q ≡ b → (r : Right) → rules.joined false p a q b (tree_eq p q) ≡ Some r → Row (Or p q) r
or_row p q (Some true) b h g r e = just (Row (Or p q)) (Is (Truth true)) r e (moved (both Or (truth_of p true h) refl) (row_true_or q))
or_row p q (Some false) b h g r e = just (Row (Or p q)) (Is q) r e (moved (both Or (truth_of p false h) refl) (row_false_or q))
or_row p q None (Some true) h g r e = just (Row (Or p q)) (Is (Truth true)) r e (moved (both Or refl (truth_of q true g)) (row_or_true p))
or_row p q None (Some false) h g r e = just (Row (Or p q)) (Is p) r e (moved (both Or refl (truth_of q false g)) (row_or_false p))
or_row p q None None h g r e = when_is (Row (Or p q)) (tree_eq p q) _ r e (λ s. moved (both Or refl (sym (tree_one p q s))) (row_or_same p))

implies_row : (p q : Tree) (a b : Option Bool) → truth p ≡ a → truth q ≡ b → (r : Right) → rules.implied p a q b (tree_eq p q) ≡ Some r → Row (Implies p q) r
implies_row p q (Some true) b h g r e = just (Row (Implies p q)) (Is q) r e (moved (both Implies (truth_of p true h) refl) (row_true_implies q))
implies_row p q (Some false) b h g r e = just (Row (Implies p q)) (Is (Truth true)) r e (moved (both Implies (truth_of p false h) refl) (row_false_implies q))
implies_row p q None (Some true) h g r e = just (Row (Implies p q)) (Is (Truth true)) r e (moved (both Implies refl (truth_of q true g)) (row_implies_true p))
implies_row p q None (Some false) h g r e = just (Row (Implies p q)) (Made (Not p)) r e (moved (both Implies refl (truth_of q false g)) (row_implies_false p))
implies_row p q None None h g r e = when_is (Row (Implies p q)) (tree_eq p q) _ r e (λ s. moved (both Implies refl (sym (tree_one p q s))) (row_implies_same p))

iff_row : (p q : Tree) (a b : Option Bool) → truth p ≡ a → truth q ≡ b → (r : Right) → rules.equivalent p a q b (tree_eq p q) ≡ Some r → Row (Iff p q) r
iff_row p q (Some true) b h g r e = just (Row (Iff p q)) (Is q) r e (moved (both Iff (truth_of p true h) refl) (row_true_iff q))
iff_row p q (Some false) (Some true) h g r e = just (Row (Iff p q)) (Is p) r e (moved (both Iff refl (truth_of q true g)) (row_iff_true p))
iff_row p q (Some false) (Some false) h g r e = just (Row (Iff p q)) (Made (Not q)) r e (moved (both Iff (truth_of p false h) refl) (row_false_iff q))
iff_row p q (Some false) None h g r e = just (Row (Iff p q)) (Made (Not q)) r e (moved (both Iff (truth_of p false h) refl) (row_false_iff q))
iff_row p q None (Some true) h g r e = just (Row (Iff p q)) (Is p) r e (moved (both Iff refl (truth_of q true g)) (row_iff_true p))
iff_row p q None (Some false) h g r e = just (Row (Iff p q)) (Made (Not p)) r e (moved (both Iff refl (truth_of q false g)) (row_iff_false p))
iff_row p q None None h g r e = when_is (Row (Iff p q)) (tree_eq p q) _ r e (λ s. moved (both Iff refl (sym (tree_one p q s))) (row_iff_same p))

empty_is : {P : Type 0} (x y : Tree) (a b : Option ℤ) → literal x ≡ a → literal y ≡ b → is_empty a b ≡ true → ((c d : ℤ) → x ≡ Literal c → y ≡ Literal d → int_lt d c ≡ true → P) → P
empty_is x y (Some c) (Some d) h g e f = f c d (literal_of x c h) (literal_of y d g) e
empty_is x y (Some c) None h g e f = absurd (cc)
empty_is x y None _ h g e f = absurd (cc)

known_is : (unit : Bool) (p : Tree) (a : Option Bool) → truth p ≡ a → is_known unit a ≡ true → p ≡ Truth unit
known_is true p (Some true) h e = truth_of p true h
known_is true p (Some false) h e = absurd (cc)
known_is false p (Some false) h e = truth_of p false h
known_is false p (Some true) h e = absurd (cc)
known_is true p None h e = absurd (cc)
known_is false p None h e = absurd (cc)

for_all_row : (k : ℕ) (x y p : Tree) (r : Right) → rules.quantified true (literal x) (literal y) (truth p) ≡ Some r → Row (ForAll k x y p) r
for_all_row k x y p r e = when_is (Row (ForAll k x y p)) (is_known true (truth p) || is_empty (literal x) (literal y)) _ r e (λ z.
    elim (or_cases (is_known true (truth p)) (is_empty (literal x) (literal y)) z) [
      | inl h ↦ moved (ap (ForAll k x y) (known_is true p (truth p) refl h)) (row_for_all_true k x y)
      | inr h ↦ empty_is x y (literal x) (literal y) refl refl h (λ c d i j l. moved (λ w. ForAll k (i w) (j w) p) (row_for_all_empty k c d p l))
    ])

for_some_row : (k : ℕ) (x y p : Tree) (r : Right) → rules.quantified false (literal x) (literal y) (truth p) ≡ Some r → Row (ForSome k x y p) r
for_some_row k x y p r e = when_is (Row (ForSome k x y p)) (is_known false (truth p) || is_empty (literal x) (literal y)) _ r e (λ z.
    elim (or_cases (is_known false (truth p)) (is_empty (literal x) (literal y)) z) [
      | inl h ↦ moved (ap (ForSome k x y) (known_is false p (truth p) refl h)) (row_for_some_false k x y)
      | inr h ↦ empty_is x y (literal x) (literal y) refl refl h (λ c d i j l. moved (λ w. ForSome k (i w) (j w) p) (row_for_some_empty k c d p l))
    ])

total_row : (m x y : Tree) (r : Right) → rules.total_rule m x y ≡ Some r → Row (Total m x y) r
unfolding rules.total_rule
total_row m x y r e = first_is (Row (Total m x y)) _ _ r e
    (λ f. when_is (Row (Total m x y)) (is_empty (literal x) (literal y)) _ r f (λ z. empty_is x y (literal x) (literal y) refl refl z (λ c d i j l. moved (both (Total m) i j) (row_empty_total m c d l))))
    (λ _ f. when_is (Row (Total m x y)) (tree_eq x y) _ r f (λ s. moved (both (Total m) refl (sym (tree_one x y s))) (row_total_of_one m x)))

pub rule_row : (t : Tree) (p : Right) → rule t ≡ Some p → Row t p
unfolding rule
rule_row (Literal n) q e = absurd (cc)
rule_row (Truth b) q e = absurd (cc)
rule_row (Variable v) q e = absurd (cc)
rule_row (Add x y) q e = sum_row x y q e
rule_row (Subtract x y) q e = difference_row x y q e
rule_row (Multiply x y) q e = product_row x y q e
rule_row (Divide x y) q e = quotient_row x y q e
rule_row (Remainder x y) q e = remainder_row x y q e
rule_row (ByteAnd x y) q e = byte_and_row x y q e
rule_row (ByteOr x y) q e = byte_or_row x y q e
rule_row (ByteXor x y) q e = byte_xor_row x y q e
rule_row (Parity x) q e = fold_row Parity parity row_fold_parity x (literal x) refl q e
rule_row (Bit k x) q e = bit_row k x q e
rule_row (Psw s z ac p cy) q e = fold_psw_row s z ac p cy (literal s) (literal z) (literal ac) (literal p) (literal cy) refl refl refl refl refl q e
rule_row (If p x y) q e = choice_row p x y q e
rule_row (Element m x) q e = element_row m x q e
rule_row (Update m x y) q e = update_row m x y q e
rule_row (Total m x y) q e = total_row m x y q e
rule_row (Equal x y) q e = equality_row x y q e
rule_row (Less x y) q e = comparison_row relation.Less x y q e
rule_row (LessOrEqual x y) q e = comparison_row relation.LessOrEqual x y q e
rule_row (Not p) q e = not_row p q e
rule_row (And p r) q e = and_row p r (truth p) (truth r) refl refl q e
rule_row (Or p r) q e = or_row p r (truth p) (truth r) refl refl q e
rule_row (Implies p r) q e = implies_row p r (truth p) (truth r) refl refl q e
rule_row (Iff p r) q e = iff_row p r (truth p) (truth r) refl refl q e
rule_row (ForAll k x y p) q e = for_all_row k x y p q e
rule_row (ForSome k x y p) q e = for_some_row k x y p q e
